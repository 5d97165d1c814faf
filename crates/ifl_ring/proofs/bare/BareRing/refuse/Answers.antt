use Rattle.std.proofs.Common.{rules, arith, ℕ, ◌∙◌, ◌≡◌, lt_of_not-le}
use mathlib.Core.Logic.{dite}
use native.Mathlib.Decide.{dec_le}
use Rattle.ifl_base.specs.Space.{space}
use Rattle.ifl_ringcore.specs.History.{state_after}
use Rattle.ifl_ringcore.specs.State.{first_state}
use Rattle.ifl_ring.proofs.Claiming.{refused-sized, rests-made_look, rests-refused}
use Rattle.ifl_ring.proofs.Refusing.{refuses, refused_word}
use Rattle.ifl_ring.proofs.bare.BareRing.refuse.Goals as goal

pub compare_exchange_with-word-requires : goal.compare_exchange_with-word-requires
compare_exchange_with-word-requires g c = let r = c.args.self.now.range in let k : c.args.self.now.table.shared.key.size ≡ c.args.self.now.size = c.args.self.now.keyed in
    (c.requires.table, search rules, refuses g.D.Item.RingItem.meaning g.D.Drainer.origin g.D.Drainer.settled g.D.Drainer.full g.D.Drainer.stands_for _ _ _ _ _ _ c.args.n c.requires.rest.1 c.requires.rest.0 c.requires.batch (rw k r.1) (omega arith))

pub read-requires-clause-word : goal.read-requires-clause-word
read-requires-clause-word g c = let t = c.compare_exchange_with-word.ensures.2 in (state_after first_state c.compare_exchange_with-word.new.seat.me.0.known.seen, refused_word _ c.args.self.now.size c.args.n 18446744073709551615 0 c.compare_exchange_with-word.result c.args.seat.now.me c.compare_exchange_with-word.new.seat.me c.args.self.now.sized.1 t)

pub returns-clause-rest : goal.returns-clause-rest
returns-clause-rest g c = let range = c.args.self.now.range in let size : ℕ = c.args.self.now.size in
    let t = refused-sized _ size c.args.n 18446744073709551615 0 c.compare_exchange_with-word.result c.args.seat.now.me c.compare_exchange_with-word.new.seat.me c.read.result c.args.self.now.sized.1 (omega arith) range.1 c.read.ensures.within c.read.ensures.packs c.compare_exchange_with-word.ensures.2 in (
      dite (dec_le (space size c.read.result) c.args.n) (λ full. rests-refused _ _ _ _ _ c.requires.rest.0 (t.3 full)) (λ room. rests-made_look _ _ _ _ c.requires.rest.0 (t.4 (lt_of_not-le room))),
      t.0.0,
      t.1 ∙ c.requires.rest.2,
    )

pub returns-clause-shown : goal.returns-clause-shown
returns-clause-shown g c = let range = c.args.self.now.range in (refused-sized _ c.args.self.now.size c.args.n 18446744073709551615 0 c.compare_exchange_with-word.result c.args.seat.now.me c.compare_exchange_with-word.new.seat.me c.read.result c.args.self.now.sized.1 (omega arith) range.1 c.read.ensures.within c.read.ensures.packs c.compare_exchange_with-word.ensures.2).2

pub returns-clause-refused : goal.returns-clause-refused
returns-clause-refused g c = let range = c.args.self.now.range in (refused-sized _ c.args.self.now.size c.args.n 18446744073709551615 0 c.compare_exchange_with-word.result c.args.seat.now.me c.compare_exchange_with-word.new.seat.me c.read.result c.args.self.now.sized.1 (omega arith) range.1 c.read.ensures.within c.read.ensures.packs c.compare_exchange_with-word.ensures.2).3

pub returns-clause-looked : goal.returns-clause-looked
returns-clause-looked g c = let range = c.args.self.now.range in (refused-sized _ c.args.self.now.size c.args.n 18446744073709551615 0 c.compare_exchange_with-word.result c.args.seat.now.me c.compare_exchange_with-word.new.seat.me c.read.result c.args.self.now.sized.1 (omega arith) range.1 c.read.ensures.within c.read.ensures.packs c.compare_exchange_with-word.ensures.2).4
