use Rattle.std.proofs.Common.{◌≡◌, ◌≢◌, ◌∙◌, ◌++◌, ◌%◌, ℕ, List, refl, ap, subst, length}
use Rattle.ifl_pcap.specs.declared.form.Order.TheVariants.{Little}
use Rattle.ifl_pcap.specs.Numbers.{spelled_in}
use Rattle.ifl_check.proofs.Absent.{if_none, none-so, some-so}
use Rattle.ifl_check.proofs.Fronts.{behind_front, stop_front, five_parts}
use Rattle.ifl_check.proofs.Records.{record-parts}
use Rattle.ifl_check.proofs.wire.behind_record.Goals as goal

pub returns-in_err-rest-2-clause-none : goal.returns-in_err-rest-2-clause-none
returns-in_err-rest-2-clause-none c =
    let st = c.stamp-stamp.result in let f = c.args.frame.now in let low = length f.bytes % 4294967296 in
    let tail = spelled_in Little low ++ (spelled_in Little st.orig ++ f.bytes) in
    if_none c.from_residual-in_err-rest-2.result _ (subst (λ (z : List ℕ). (rest : List ℕ) → c.args.text.now ≢ z ++ rest) (record-parts f st low f.bytes c.stamp-stamp.ensures refl refl)
    (behind_front c.args.text.now (spelled_in Little st.sec) (spelled_in Little st.usec ++ tail) c.in_ok-rest.rest.now c.in_ok-rest.ensures.some
    (stop_front c.in_ok-rest.rest.now (spelled_in Little st.usec) tail c.in_err-rest-2.ensures.none)))

pub returns-in_err-rest-3-clause-none : goal.returns-in_err-rest-3-clause-none
returns-in_err-rest-3-clause-none c =
    let st = c.stamp-stamp.result in let f = c.args.frame.now in let low = c.low_bits.result in
    let last = spelled_in Little st.orig ++ f.bytes in let tail = spelled_in Little low ++ last in
    if_none c.from_residual-in_err-rest-3.result _ (subst (λ (z : List ℕ). (rest : List ℕ) → c.args.text.now ≢ z ++ rest)
    (record-parts f st low f.bytes c.stamp-stamp.ensures (c.low_bits.ensures ∙ ap (λ (n : ℕ). n % 4294967296) c.len.ensures) refl)
    (behind_front c.args.text.now (spelled_in Little st.sec) (spelled_in Little st.usec ++ tail) c.in_ok-rest.rest.now c.in_ok-rest.ensures.some
    (behind_front c.in_ok-rest.rest.now (spelled_in Little st.usec) tail c.in_ok-rest-2.rest.now c.in_ok-rest-2.ensures.some
    (stop_front c.in_ok-rest-2.rest.now (spelled_in Little low) last c.in_err-rest-3.ensures.none))))

pub returns-in_err-rest-4-clause-none : goal.returns-in_err-rest-4-clause-none
returns-in_err-rest-4-clause-none c =
    let st = c.stamp-stamp.result in let f = c.args.frame.now in let low = c.low_bits.result in
    let last = spelled_in Little st.orig ++ f.bytes in let tail = spelled_in Little low ++ last in
    if_none c.from_residual-in_err-rest-4.result _ (subst (λ (z : List ℕ). (rest : List ℕ) → c.args.text.now ≢ z ++ rest)
    (record-parts f st low f.bytes c.stamp-stamp.ensures (c.low_bits.ensures ∙ ap (λ (n : ℕ). n % 4294967296) c.len.ensures) refl)
    (behind_front c.args.text.now (spelled_in Little st.sec) (spelled_in Little st.usec ++ tail) c.in_ok-rest.rest.now c.in_ok-rest.ensures.some
    (behind_front c.in_ok-rest.rest.now (spelled_in Little st.usec) tail c.in_ok-rest-2.rest.now c.in_ok-rest-2.ensures.some
    (behind_front c.in_ok-rest-2.rest.now (spelled_in Little low) last c.in_ok-rest-3.rest.now c.in_ok-rest-3.ensures.some
    (stop_front c.in_ok-rest-3.rest.now (spelled_in Little st.orig) f.bytes c.in_err-rest-4.ensures.none)))))

pub returns-clause-some : goal.returns-clause-some
returns-clause-some c =
    let st = c.stamp-stamp.result in let f = c.args.frame.now in let low = c.low_bits.result in
    let same = record-parts f st low c.bytes.result.now c.stamp-stamp.ensures (c.low_bits.ensures ∙ ap (λ (n : ℕ). n % 4294967296) c.len.ensures) c.bytes.ensures in
    some-so c.behind.result (λ rest. c.in_ok-rest-4.rest.now ≡ c.bytes.result.now ++ rest.now) _
    (λ rest e. five_parts c.args.text.now (spelled_in Little st.sec) (spelled_in Little st.usec) (spelled_in Little low) (spelled_in Little st.orig) c.bytes.result.now
    c.in_ok-rest.rest.now c.in_ok-rest-2.rest.now c.in_ok-rest-3.rest.now c.in_ok-rest-4.rest.now rest.now c.in_ok-rest.ensures.some c.in_ok-rest-2.ensures.some c.in_ok-rest-3.ensures.some c.in_ok-rest-4.ensures.some e
    ∙ ap (λ (z : List ℕ). z ++ rest.now) same)
    c.behind.ensures.some

pub returns-clause-none : goal.returns-clause-none
returns-clause-none c =
    let st = c.stamp-stamp.result in let f = c.args.frame.now in let low = c.low_bits.result in
    let last = spelled_in Little st.orig ++ c.bytes.result.now in let tail = spelled_in Little low ++ last in
    let same = record-parts f st low c.bytes.result.now c.stamp-stamp.ensures (c.low_bits.ensures ∙ ap (λ (n : ℕ). n % 4294967296) c.len.ensures) c.bytes.ensures in
    none-so c.behind.result ((rest : List ℕ) → c.in_ok-rest-4.rest.now ≢ c.bytes.result.now ++ rest) _
    (λ never. subst (λ (z : List ℕ). (rest : List ℕ) → c.args.text.now ≢ z ++ rest) same
    (behind_front c.args.text.now (spelled_in Little st.sec) (spelled_in Little st.usec ++ tail) c.in_ok-rest.rest.now c.in_ok-rest.ensures.some
    (behind_front c.in_ok-rest.rest.now (spelled_in Little st.usec) tail c.in_ok-rest-2.rest.now c.in_ok-rest-2.ensures.some
    (behind_front c.in_ok-rest-2.rest.now (spelled_in Little low) last c.in_ok-rest-3.rest.now c.in_ok-rest-3.ensures.some
    (behind_front c.in_ok-rest-3.rest.now (spelled_in Little st.orig) c.bytes.result.now c.in_ok-rest-4.rest.now c.in_ok-rest-4.ensures.some never)))))
    c.behind.ensures.none
