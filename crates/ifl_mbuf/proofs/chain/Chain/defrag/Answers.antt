use Rattle.std.proofs.Common.{◌≡◌, ◌++◌, ◌∷◌, [], List, ℕ, length, append_assoc, sym, ap, subst, ◌∙◌}
use Rattle.std.proofs.lemmas.List.{append-nil, map-append}
use Rattle.ifl_mbuf.specs.Segment.{Segment, bytes_of, numbers_of}
use Rattle.ifl_mbuf.specs.Defrag.{IsDense}
use Rattle.ifl_mbuf.proofs.Laid.{IsLaid, laid_end}
use Rattle.ifl_mbuf.proofs.chain.Chain.defrag.Goals as goal

pub returns : goal.returns
returns c =
    let old : List Segment = c.args.self.now in let l = c.loop-next in let full : List Segment = l.filling.full in let last : Segment = l.filling.last in let spare = l.filling.spare in
    let none : l.self ≡ [] = c.in_default-pop_front.ensures.0 in
    let are : numbers_of full ++ last.number ∷ spare ≡ numbers_of old = sym (append-nil (numbers_of full ++ last.number ∷ spare)) ∙ (ap (λ (ss : List Segment). (numbers_of full ++ last.number ∷ spare) ++ numbers_of ss) (sym none) ∙ l.invariant.clusters) in
    let is : bytes_of full ++ last.bytes ≡ bytes_of old = sym (append-nil (bytes_of full ++ last.bytes)) ∙ (ap (λ (ss : List Segment). (bytes_of full ++ last.bytes) ++ bytes_of ss) (sym none) ∙ l.invariant.bytes) in
    let laid : IsLaid full last (numbers_of old) (bytes_of old) = laid_end full last spare (numbers_of old) (bytes_of old) l.invariant.filling are is in
    let new = c.push.ensures in
    record {
      exact = new ∙ laid.exact;
      dense = subst IsDense (sym new) laid.dense;
      bytes = ap bytes_of new ∙ laid.bytes;
      clusters = ap (λ (ns : List ℕ). ns ++ spare) (ap numbers_of new ∙ map-append (λ (s : Segment). s.number) full (last ∷ [])) ∙ (append_assoc (numbers_of full) (last.number ∷ []) spare ∙ are);
      segments = ap (λ (ss : List Segment). length ss) new ∙ laid.segments;
    }
