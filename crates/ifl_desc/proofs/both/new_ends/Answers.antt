use Rattle.std.proofs.Common.{◌∙◌, ap, sym, subst, List, rules}
use Rattle.ifl_desc.specs.declared.history.Event.{Event}
use Rattle.ifl_desc.specs.Rule.{IsLawful}
use Rattle.ifl_desc.proofs.Beginning.{lawful_new}
use Rattle.ifl_desc.proofs.AnyTie.{fills_all, parts_all}
use Rattle.ifl_desc.proofs.both.new_ends.Goals as goal

pub load-requires : goal.load-requires
load-requires g c = let t = c.requires.table in (c.requires.seat.0, t.0, fills_all g.T.RingWords.tie c.args.size _ _ _ _ c.requires.stays t.2 t.1 c.requires.seat.1)

pub split_seat-other-requires : goal.split_seat-other-requires
split_seat-other-requires g c = let t = c.requires.table in (c.load.ensures.0 ∙ c.requires.seat.0, t.0, parts_all g.T.RingWords.tie _ _ _ c.load.ensures.2.0)

pub returns-clause-ends : goal.returns-clause-ends
returns-clause-ends g c = let t = c.requires.table in (
  record {
    rack = search rules;
    total = search rules;
    bare = t.3;
    lawful = subst (λ (z : List Event). IsLawful c.args.size z) (sym (ap (λ m. m.0.seen) c.split_seat-other.ensures.2)) (lawful_new c.args.size t.3);
    short = search rules;
  },
  record {
    rack = search rules;
    total = search rules;
    lawful = subst (λ (z : List Event). IsLawful c.args.size z) (sym (ap (λ m. m.0.seen) c.split_seat-other.ensures.4)) (lawful_new c.args.size t.3);
    begun = search rules;
  },
)
