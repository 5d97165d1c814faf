use Rattle.std.proofs.Common.{◌≡◌, ℕ, ◌+◌, ◌<◌, true, List, sum, take, ap, sym, ◌∙◌, subst, arith}
use Rattle.std.proofs.lemmas.List.Sums.{sum_by-take-le}
use Rattle.ifl_txq.specs.Log.{LogSees, is_listed}
use Rattle.ifl_txq.specs.Tables.{place_of}
use Rattle.ifl_txq.proofs.Tables.{place_ok}
use Rattle.ifl_txq.proofs.log.Log.place.Goals as goal

pub total-before-requires : goal.total-before-requires
total-before-requires c = let l = sum_by-take-le (λ (x : ℕ). x) c.self.inside.counts.items c.args.t.sender in let f = c.self.invariant.few in
    subst (λ (z : List ℕ). sum (take c.args.t.sender z) < 4294967296) (sym c.deref.ensures.value) (let g : sum (take c.args.t.sender c.self.inside.counts.items) < 4294967296 = omega arith in g)

pub returns-clause-inside : goal.returns-clause-inside
returns-clause-inside c =
    subst (λ (z : LogSees). (is_listed z.counts c.args.t ≡ true) × (c.total-before.result + c.args.t.index ≡ place_of z.counts c.args.t) × (c.total-before.result + c.args.t.index < sum z.counts)) c.self.view_is
    (place_ok c.self.inside.counts.items c.args.t c.index.result.now c.total-before.result (let ok = c.self.inside.counts.ok in let n = c.len.ensures in let h = c.if-len-sender.false in omega arith) c.index.ensures c.if-index-t.false (c.total-before.ensures ∙ ap (λ (z : List ℕ). sum (take c.args.t.sender z)) c.deref.ensures.value))
