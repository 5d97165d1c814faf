use Rattle.std.proofs.Common.{◌≡◌, ℕ, suc, ◌-◌, true, false, List, set, get_or, ap, sym, refl, ◌∙◌, subst, arith}
use Rattle.std.specs.Prelude.{vec_capacity}
use Rattle.std.proofs.lemmas.List.{get_or_read}
use Rattle.ifl_txq.specs.declared.line.Line.{Line}
use Rattle.ifl_txq.specs.Log.{LogSees, is_listed, open_line, fate_or, after_settle}
use Rattle.ifl_txq.specs.Tables.{place_of, IsLog}
use Rattle.ifl_txq.proofs.Tables.{there, free_not_noted, taken_line, some_number, settled_none, settled_line, settled_lines, outside_not_noted}
use Rattle.ifl_txq.proofs.log.Log.settle.Goals as goal

pub returns-in_default : goal.returns-in_default
returns-in_default c =
    let none = outside_not_noted c.self.inside.counts.items c.self.inside.places.items c.self.inside.lines.items c.self.inside.room.items _ _ c.self.invariant c.args.t (subst (λ (z : LogSees). is_listed z.counts c.args.t ≡ false) (sym c.self.view_is) c.in_default.ensures.outside) in
    subst (λ (z : LogSees). z ≡ after_settle c.args.t c.args.fate z) c.self.view_is (λ i. record { counts = c.self.inside.counts.items; lines = sym (settled_none c.args.t c.args.fate c.self.inside.lines.items none) i })

pub returns-then-number-eq0 : goal.returns-then-number-eq0
returns-then-number-eq0 c =
    let k = c.self.invariant in let ce : c.args.self.now.counts ≡ c.self.inside.counts.items = ap (λ (z : LogSees). z.counts) (sym c.self.view_is) in
    let listed : is_listed c.self.inside.counts.items c.args.t ≡ true = subst (λ (z : List ℕ). is_listed z c.args.t ≡ true) ce c.in-Some.ensures.inside.0 in
    let at : c.in-Some.place ≡ place_of c.self.inside.counts.items c.args.t = c.in-Some.ensures.inside.1 ∙ ap (λ (z : List ℕ). place_of z c.args.t) ce in
    let lt = there c.self.inside.counts.items c.self.inside.places.items c.self.inside.lines.items c.self.inside.room.items _ _ k c.args.t listed in
    let read = get_or_read c.self.inside.places.items c.in-Some.place c.index.result.now (omega arith) c.index.ensures 0 in
    let free : get_or c.self.inside.places.items (place_of c.self.inside.counts.items c.args.t) 0 ≡ 0 = ap (λ (z : ℕ). get_or c.self.inside.places.items z 0) (sym at) ∙ sym read ∙ c.if-number-eq0.true in
    let none = free_not_noted c.self.inside.counts.items c.self.inside.places.items c.self.inside.lines.items c.self.inside.room.items _ _ k c.args.t listed free in
    subst (λ (z : LogSees). z ≡ after_settle c.args.t c.args.fate z) c.self.view_is (λ i. record { counts = c.self.inside.counts.items; lines = sym (settled_none c.args.t c.args.fate c.self.inside.lines.items none) i })

pub index_mut-line-requires : goal.index_mut-line-requires
index_mut-line-requires c =
    let k = c.self.invariant in let ce : c.args.self.now.counts ≡ c.self.inside.counts.items = ap (λ (z : LogSees). z.counts) (sym c.self.view_is) in
    let listed : is_listed c.self.inside.counts.items c.args.t ≡ true = subst (λ (z : List ℕ). is_listed z c.args.t ≡ true) ce c.in-Some.ensures.inside.0 in
    let at : c.in-Some.place ≡ place_of c.self.inside.counts.items c.args.t = c.in-Some.ensures.inside.1 ∙ ap (λ (z : List ℕ). place_of z c.args.t) ce in
    let lt = there c.self.inside.counts.items c.self.inside.places.items c.self.inside.lines.items c.self.inside.room.items _ _ k c.args.t listed in
    let read = get_or_read c.self.inside.places.items c.in-Some.place c.index.result.now (omega arith) c.index.ensures 0 in
    let number = some_number c.index.result.now c.if-number-eq0.false in let b = number.1 in
    let has : get_or c.self.inside.places.items (place_of c.self.inside.counts.items c.args.t) 0 ≡ suc number.0 = ap (λ (z : ℕ). get_or c.self.inside.places.items z 0) (sym at) ∙ sym read ∙ number.1 in
    let w = taken_line c.self.inside.counts.items c.self.inside.places.items c.self.inside.lines.items c.self.inside.room.items _ _ k c.args.t listed number.0 has in let w0 = w.0 in
    let ok = c.self.inside.lines.ok in omega arith

pub invariant_of-self : goal.invariant_of-self
invariant_of-self c =
    let k = c.self.invariant in let ce : c.args.self.now.counts ≡ c.self.inside.counts.items = ap (λ (z : LogSees). z.counts) (sym c.self.view_is) in
    let listed : is_listed c.self.inside.counts.items c.args.t ≡ true = subst (λ (z : List ℕ). is_listed z c.args.t ≡ true) ce c.in-Some.ensures.inside.0 in
    let at : c.in-Some.place ≡ place_of c.self.inside.counts.items c.args.t = c.in-Some.ensures.inside.1 ∙ ap (λ (z : List ℕ). place_of z c.args.t) ce in
    let lt = there c.self.inside.counts.items c.self.inside.places.items c.self.inside.lines.items c.self.inside.room.items _ _ k c.args.t listed in
    let read = get_or_read c.self.inside.places.items c.in-Some.place c.index.result.now (omega arith) c.index.ensures 0 in
    let number = some_number c.index.result.now c.if-number-eq0.false in let b = number.1 in
    let has : get_or c.self.inside.places.items (place_of c.self.inside.counts.items c.args.t) 0 ≡ suc number.0 = ap (λ (z : ℕ). get_or c.self.inside.places.items z 0) (sym at) ∙ sym read ∙ number.1 in
    let w = taken_line c.self.inside.counts.items c.self.inside.places.items c.self.inside.lines.items c.self.inside.room.items _ _ k c.args.t listed number.0 has in let w0 = w.0 in
    let m : c.index.result.now - 1 ≡ number.0 = omega arith in
    let was : Line = c.index_mut-line.result.now in
    let q : was ≡ get_or c.self.inside.lines.items number.0 (open_line c.args.t) = get_or_read c.self.inside.lines.items (c.index.result.now - 1) was (omega arith) c.index_mut-line.ensures.value (open_line c.args.t) ∙ ap (λ (z : ℕ). get_or c.self.inside.lines.items z (open_line c.args.t)) m in
    let y : Line = record { ticket = was.ticket; fate = c.first_fate-line.result } in
    subst (λ (z : ℕ). IsLog c.self.inside.counts.items c.self.inside.places.items (set c.self.inside.lines.items z y) c.self.inside.room.items (vec_capacity c.self.inside.lines) (vec_capacity c.self.inside.room)) (sym m)
    (settled_lines c.self.inside.counts.items c.self.inside.places.items c.self.inside.lines.items c.self.inside.room.items (vec_capacity c.self.inside.lines) (vec_capacity c.self.inside.room) k c.args.t listed number.0 y (vec_capacity c.self.inside.lines) (vec_capacity c.self.inside.room) refl refl w0 (ap (λ (z : Line). z.ticket) q))

pub returns : goal.returns
returns c =
    let k = c.self.invariant in let ce : c.args.self.now.counts ≡ c.self.inside.counts.items = ap (λ (z : LogSees). z.counts) (sym c.self.view_is) in
    let listed : is_listed c.self.inside.counts.items c.args.t ≡ true = subst (λ (z : List ℕ). is_listed z c.args.t ≡ true) ce c.in-Some.ensures.inside.0 in
    let at : c.in-Some.place ≡ place_of c.self.inside.counts.items c.args.t = c.in-Some.ensures.inside.1 ∙ ap (λ (z : List ℕ). place_of z c.args.t) ce in
    let lt = there c.self.inside.counts.items c.self.inside.places.items c.self.inside.lines.items c.self.inside.room.items _ _ k c.args.t listed in
    let read = get_or_read c.self.inside.places.items c.in-Some.place c.index.result.now (omega arith) c.index.ensures 0 in
    let number = some_number c.index.result.now c.if-number-eq0.false in let b = number.1 in
    let has : get_or c.self.inside.places.items (place_of c.self.inside.counts.items c.args.t) 0 ≡ suc number.0 = ap (λ (z : ℕ). get_or c.self.inside.places.items z 0) (sym at) ∙ sym read ∙ number.1 in
    let w = taken_line c.self.inside.counts.items c.self.inside.places.items c.self.inside.lines.items c.self.inside.room.items _ _ k c.args.t listed number.0 has in let w0 = w.0 in
    let m : c.index.result.now - 1 ≡ number.0 = omega arith in
    let was : Line = c.index_mut-line.result.now in
    let q : was ≡ get_or c.self.inside.lines.items number.0 (open_line c.args.t) = get_or_read c.self.inside.lines.items (c.index.result.now - 1) was (omega arith) c.index_mut-line.ensures.value (open_line c.args.t) ∙ ap (λ (z : ℕ). get_or c.self.inside.lines.items z (open_line c.args.t)) m in
    let y : Line = record { ticket = was.ticket; fate = c.first_fate-line.result } in
    let is : y ≡ record { ticket = (get_or c.self.inside.lines.items number.0 (open_line c.args.t)).ticket; fate = fate_or (get_or c.self.inside.lines.items number.0 (open_line c.args.t)).fate c.args.fate } =
    (λ i. record { ticket = (q i).ticket; fate = (c.first_fate-line.ensures ∙ ap (λ (z : Line). fate_or z.fate c.args.fate) q) i }) in
    let a : LogSees = record { counts = c.self.inside.counts.items; lines = set c.self.inside.lines.items (c.index.result.now - 1) y } in
    subst (λ (z : LogSees). a ≡ after_settle c.args.t c.args.fate z) c.self.view_is
    (λ i. record { counts = c.self.inside.counts.items; lines = (ap (λ (z : ℕ). set c.self.inside.lines.items z y) m ∙ sym (settled_line c.self.inside.counts.items c.self.inside.places.items c.self.inside.lines.items c.self.inside.room.items _ _ k c.args.t listed number.0 c.args.fate y has is)) i })
