use Rattle.std.proofs.Common.{◌≡◌, ◌<◌, ◌++◌, ◌∷◌, [], length, sym, ap, subst, ◌∙◌, arith}
use Rattle.std.specs.Prelude.{take, drop}
use Rattle.ifl_mbuf.specs.Segment.{Segment, bytes_of, room, extended}
use Rattle.ifl_mbuf.specs.Defrag.{IsFilling}
use Rattle.ifl_mbuf.proofs.Laid.{laid_on, bytes_laid_on}
use Rattle.ifl_mbuf.proofs.defrag.Filling.add.Goals as goal

pub returns-clause-filling : goal.returns-clause-filling
returns-clause-filling c =
    let full = c.args.self.full in let last = c.args.self.last in let next = c.args.next in let size = c.room-room.ensures in
    let pushed : c.push-2.new.self ≡ full ++ extended last (take (room last) next.bytes) ∷ [] = c.push-2.ensures ∙ ap (λ s. full ++ s ∷ []) (c.append-2.ensures ∙ (λ i. extended last (take (size i) (c.bytes-2.ensures.value i)))) in
    let over = c.if-bytes-room.false in let seen = ap length c.bytes.ensures.value in let narrow : room last < length next.bytes = omega arith in
    let rest = c.restart-last.ensures.bytes ∙ (ap (λ (s : Segment). s.bytes) c.cut_front.ensures ∙ ap (λ n. drop n next.bytes) size) in
    subst (λ ss. IsFilling ss c.restart-last.result.0) (sym pushed) (laid_on full last next c.restart-last.result.0 c.requires.filling c.requires.filled narrow c.restart-last.ensures.start rest)

pub returns-clause-bytes : goal.returns-clause-bytes
returns-clause-bytes c =
    let full = c.args.self.full in let last = c.args.self.last in let next = c.args.next in
    let pushed : c.push-2.new.self ≡ full ++ extended last (take c.room-room.result next.bytes) ∷ [] = c.push-2.ensures ∙ ap (λ s. full ++ s ∷ []) (c.append-2.ensures ∙ ap (λ bs. extended last (take c.room-room.result bs)) c.bytes-2.ensures.value) in
    let rest = c.restart-last.ensures.bytes ∙ ap (λ (s : Segment). s.bytes) c.cut_front.ensures in
    (λ i. bytes_of (pushed i) ++ rest i) ∙ bytes_laid_on full last next.bytes c.room-room.result
