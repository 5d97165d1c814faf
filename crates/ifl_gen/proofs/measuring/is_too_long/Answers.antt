use Rattle.std.proofs.Common.{◌≡◌, ℕ, ◌+◌, Bool, ◌||◌, [], ◌∷◌, map, sum, nat_lt, sym, ap, ◌∙◌, arith}
use Rattle.std.specs.List.{range_with_len, list_any}
use Rattle.std.proofs.Math.Bool.{or-false}
use Rattle.std.proofs.lemmas.List.Folds.{list_any-append}
use Rattle.std.proofs.lemmas.List.FromFn.{map-range_with_len_more, sum_by-map-range_with_len_more}
use Rattle.ifl_gen.specs.declared.traffic.Traffic.{Traffic}
use Rattle.ifl_gen.specs.Measure.{sizes}
use Rattle.ifl_gen.proofs.Sizes.{size, sizes-by-sender}
use Rattle.ifl_gen.proofs.measuring.is_too_long.Goals as goal
use Rattle.ifl_gen.proofs.measuring.is_too_long.Goals.{then-over, else-over}

-- one more of the numbers that a function makes
list_any-more : (p : ℕ → Bool) (f : ℕ → ℕ) (n len : ℕ) (before : Bool) → before ≡ list_any p (map f (range_with_len 0 n)) → len ≡ f n → (before || p len) ≡ list_any p (map f (range_with_len 0 (n + 1)))
list_any-more p f n len before is made =
    let xs = map f (range_with_len 0 n) in
    ap (λ (b : Bool). b || p len) is
    ∙ ap (λ (k : ℕ). list_any p xs || p k) made
    ∙ ap (λ (b : Bool). list_any p xs || b) (sym (or-false (p (f n))))
    ∙ sym (list_any-append p xs (f n ∷ []))
    ∙ sym (ap (list_any p) (map-range_with_len_more f 0 n n (omega arith)))

pub loop-sender-preserved : goal.loop-sender-preserved
loop-sender-preserved c =
    let f = size c.args.traffic in
    let s = c.loop-sender.sender in
    let len = c.file_len-len.result in
    let p = nat_lt 67108864 in
    let more = list_any-more p f s len c.loop-sender.over c.loop-sender.invariant.over c.file_len-len.ensures.value in record {
      over = elim c.if-over.branch [
        | then-over w ↦ w.over-is ∙ w.if-over.true ∙ ap (λ (b : Bool). b || p len) (sym w.if-over.true) ∙ more
        | else-over w ↦ w.over-is ∙ ap (λ (b : Bool). b || p len) (sym w.if-over.false) ∙ more
      ];
      all = omega (arith, c.loop-sender.invariant.all, c.file_len-len.ensures.value, sum_by-map-range_with_len_more (λ x. x) f 0 s s (omega arith));
      few = omega (arith, c.loop-sender.invariant.few, c.file_len-len.ensures.few);
    }

-- the sizes of all senders
all_senders : (traffic : Traffic) (s : ℕ) → s ≡ traffic.senders → map (size traffic) (range_with_len 0 s) ≡ sizes traffic
all_senders traffic s is = ap (λ (n : ℕ). map (size traffic) (range_with_len 0 n)) is ∙ sym (sizes-by-sender traffic)

pub returns-then-over-2 : goal.returns-then-over-2
returns-then-over-2 c =
    let t = c.args.traffic in
    let over = c.loop-sender.invariant.over ∙ ap (list_any (nat_lt 67108864)) (all_senders t c.loop-sender.sender (omega arith)) in
    c.if-over-2.true ∙ ap (λ (b : Bool). b || nat_lt 134217728 (sum (sizes t))) (sym c.if-over-2.true ∙ over)

pub returns-else-over-2 : goal.returns-else-over-2
returns-else-over-2 c =
    let t = c.args.traffic in
    let are = all_senders t c.loop-sender.sender (omega arith) in
    let over = c.loop-sender.invariant.over ∙ ap (list_any (nat_lt 67108864)) are in
    let all = c.loop-sender.invariant.all ∙ ap sum are in
    ap (nat_lt 134217728) all ∙ ap (λ (b : Bool). b || nat_lt 134217728 (sum (sizes t))) (sym c.if-over-2.false ∙ over)
