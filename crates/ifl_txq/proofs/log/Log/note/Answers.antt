use Rattle.std.proofs.Common.{◌≡◌, ℕ, suc, true, List, [], ◌∷◌, ◌++◌, length, set, get_or, ap, sym, ◌∙◌, subst, arith, length-append, refl}
use Rattle.std.specs.Prelude.{vec_capacity}
use Rattle.std.proofs.lemmas.List.{get_or_read}
use Rattle.ifl_txq.specs.declared.line.Line.{Line}
use Rattle.ifl_txq.specs.Log.{LogSees, is_listed, open_line, after_note}
use Rattle.ifl_txq.specs.Tables.{place_of, IsLog}
use Rattle.ifl_txq.proofs.Lines.{noted_new}
use Rattle.ifl_txq.proofs.Tables.{there, more_room, more_lines, free_not_noted, taken_noted, noted_old, some_number}
use Rattle.ifl_txq.proofs.log.Log.note.Goals as goal

pub push_reserved-requires : goal.push_reserved-requires
push_reserved-requires c =
    let k = c.self.invariant in let ce : c.args.self.now.counts ≡ c.self.inside.counts.items = ap (λ (z : LogSees). z.counts) (sym c.self.view_is) in
    let listed : is_listed c.self.inside.counts.items c.args.t ≡ true = subst (λ (z : List ℕ). is_listed z c.args.t ≡ true) ce c.in-Some.ensures.inside.0 in
    let at : c.in-Some.place ≡ place_of c.self.inside.counts.items c.args.t = c.in-Some.ensures.inside.1 ∙ ap (λ (z : List ℕ). place_of z c.args.t) ce in
    let lt = there c.self.inside.counts.items c.self.inside.places.items c.self.inside.lines.items c.self.inside.room.items _ _ k c.args.t listed in
    let read = get_or_read c.self.inside.places.items c.in-Some.place c.index.result.now (omega arith) c.index.ensures 0 in
    let free : get_or c.self.inside.places.items (place_of c.self.inside.counts.items c.args.t) 0 ≡ 0 = ap (λ (z : ℕ). get_or c.self.inside.places.items z 0) (sym at) ∙ sym read ∙ c.if-index-eq0.true in
    let m = more_room c.self.inside.counts.items c.self.inside.places.items c.self.inside.lines.items c.self.inside.room.items _ _ k c.args.t listed free in
    let ok = c.self.inside.lines.ok in let fit = k.lines_fit in omega arith

pub overflow_cast-len : goal.overflow_cast-len
overflow_cast-len c =
    let k = c.self.invariant in let ce : c.args.self.now.counts ≡ c.self.inside.counts.items = ap (λ (z : LogSees). z.counts) (sym c.self.view_is) in
    let listed : is_listed c.self.inside.counts.items c.args.t ≡ true = subst (λ (z : List ℕ). is_listed z c.args.t ≡ true) ce c.in-Some.ensures.inside.0 in
    let at : c.in-Some.place ≡ place_of c.self.inside.counts.items c.args.t = c.in-Some.ensures.inside.1 ∙ ap (λ (z : List ℕ). place_of z c.args.t) ce in
    let lt = there c.self.inside.counts.items c.self.inside.places.items c.self.inside.lines.items c.self.inside.room.items _ _ k c.args.t listed in
    let read = get_or_read c.self.inside.places.items c.in-Some.place c.index.result.now (omega arith) c.index.ensures 0 in
    let free : get_or c.self.inside.places.items (place_of c.self.inside.counts.items c.args.t) 0 ≡ 0 = ap (λ (z : ℕ). get_or c.self.inside.places.items z 0) (sym at) ∙ sym read ∙ c.if-index-eq0.true in
    let m = more_room c.self.inside.counts.items c.self.inside.places.items c.self.inside.lines.items c.self.inside.room.items _ _ k c.args.t listed free in
    let ok = c.self.inside.lines.ok in let f = k.few in let e = c.len.ensures in let n = c.push_reserved.ensures.len in omega arith

pub invariant_of-self : goal.invariant_of-self
invariant_of-self c =
    let k = c.self.invariant in let ce : c.args.self.now.counts ≡ c.self.inside.counts.items = ap (λ (z : LogSees). z.counts) (sym c.self.view_is) in
    let listed : is_listed c.self.inside.counts.items c.args.t ≡ true = subst (λ (z : List ℕ). is_listed z c.args.t ≡ true) ce c.in-Some.ensures.inside.0 in
    let at : c.in-Some.place ≡ place_of c.self.inside.counts.items c.args.t = c.in-Some.ensures.inside.1 ∙ ap (λ (z : List ℕ). place_of z c.args.t) ce in
    let lt = there c.self.inside.counts.items c.self.inside.places.items c.self.inside.lines.items c.self.inside.room.items _ _ k c.args.t listed in
    let read = get_or_read c.self.inside.places.items c.in-Some.place c.index.result.now (omega arith) c.index.ensures 0 in
    let free : get_or c.self.inside.places.items (place_of c.self.inside.counts.items c.args.t) 0 ≡ 0 = ap (λ (z : ℕ). get_or c.self.inside.places.items z 0) (sym at) ∙ sym read ∙ c.if-index-eq0.true in
    let all = c.push_reserved.ensures.items in let ok = c.self.inside.lines.ok in let n = length-append c.self.inside.lines.items (open_line c.args.t ∷ []) in let p = c.push_reserved.ensures.len in let q = c.len.ensures in
    let long : length (c.self.inside.lines.items ++ open_line c.args.t ∷ []) ≡ c.len.result = omega arith in
    subst (λ (z : ℕ × ℕ × List Line). IsLog c.self.inside.counts.items (set c.self.inside.places.items z.0 z.1) z.2 c.self.inside.room.items (vec_capacity c.push_reserved.new.self) (vec_capacity c.self.inside.room)) (λ i. (sym at i, long i, sym all i))
    (more_lines c.self.inside.counts.items c.self.inside.places.items c.self.inside.lines.items c.self.inside.room.items _ _ k c.args.t listed (vec_capacity c.push_reserved.new.self) (vec_capacity c.self.inside.room) c.push_reserved.ensures.capacity refl free)

pub returns-then-index-eq0-clause-log : goal.returns-then-index-eq0-clause-log
returns-then-index-eq0-clause-log c =
    let k = c.self.invariant in let ce : c.args.self.now.counts ≡ c.self.inside.counts.items = ap (λ (z : LogSees). z.counts) (sym c.self.view_is) in
    let listed : is_listed c.self.inside.counts.items c.args.t ≡ true = subst (λ (z : List ℕ). is_listed z c.args.t ≡ true) ce c.in-Some.ensures.inside.0 in
    let at : c.in-Some.place ≡ place_of c.self.inside.counts.items c.args.t = c.in-Some.ensures.inside.1 ∙ ap (λ (z : List ℕ). place_of z c.args.t) ce in
    let lt = there c.self.inside.counts.items c.self.inside.places.items c.self.inside.lines.items c.self.inside.room.items _ _ k c.args.t listed in
    let read = get_or_read c.self.inside.places.items c.in-Some.place c.index.result.now (omega arith) c.index.ensures 0 in
    let free : get_or c.self.inside.places.items (place_of c.self.inside.counts.items c.args.t) 0 ≡ 0 = ap (λ (z : ℕ). get_or c.self.inside.places.items z 0) (sym at) ∙ sym read ∙ c.if-index-eq0.true in
    let fresh = free_not_noted c.self.inside.counts.items c.self.inside.places.items c.self.inside.lines.items c.self.inside.room.items _ _ k c.args.t listed free in
    let a : LogSees = record { counts = c.self.inside.counts.items; lines = c.push_reserved.new.self.items } in
    subst (λ (z : LogSees). a ≡ after_note c.args.t z) c.self.view_is
    (λ i. record { counts = c.self.inside.counts.items; lines = (c.push_reserved.ensures.items ∙ sym (noted_new c.self.inside.counts.items c.args.t c.self.inside.lines.items listed fresh)) i })

pub returns-else-index-eq0-clause-log : goal.returns-else-index-eq0-clause-log
returns-else-index-eq0-clause-log c =
    let k = c.self.invariant in let ce : c.args.self.now.counts ≡ c.self.inside.counts.items = ap (λ (z : LogSees). z.counts) (sym c.self.view_is) in
    let listed : is_listed c.self.inside.counts.items c.args.t ≡ true = subst (λ (z : List ℕ). is_listed z c.args.t ≡ true) ce c.in-Some.ensures.inside.0 in
    let at : c.in-Some.place ≡ place_of c.self.inside.counts.items c.args.t = c.in-Some.ensures.inside.1 ∙ ap (λ (z : List ℕ). place_of z c.args.t) ce in
    let lt = there c.self.inside.counts.items c.self.inside.places.items c.self.inside.lines.items c.self.inside.room.items _ _ k c.args.t listed in
    let read = get_or_read c.self.inside.places.items c.in-Some.place c.index.result.now (omega arith) c.index.ensures 0 in
    let number = some_number c.index.result.now c.if-index-eq0.false in
    let has : get_or c.self.inside.places.items (place_of c.self.inside.counts.items c.args.t) 0 ≡ suc number.0 = ap (λ (z : ℕ). get_or c.self.inside.places.items z 0) (sym at) ∙ sym read ∙ number.1 in
    let old = taken_noted c.self.inside.counts.items c.self.inside.places.items c.self.inside.lines.items c.self.inside.room.items _ _ k c.args.t listed number.0 has in
    subst (λ (z : LogSees). z ≡ after_note c.args.t z) c.self.view_is
    (λ i. record { counts = c.self.inside.counts.items; lines = sym (noted_old c.self.inside.counts.items c.args.t c.self.inside.lines.items old) i })
