use Rattle.std.proofs.Common.{◌≡◌, ◌++◌, ℕ, List, ap, ◌∙◌, codes}
use mathlib.Core.List.{append_assoc}
use Rattle.ifl_ringcore.specs.declared.counters.Counters.{Counters}
use Rattle.ifl_ringcore.specs.Texts.{count_text, counters_line}
use Rattle.ifl_ringcore.proofs.texts.put_counters.Goals as goal

-- texts appended one after another are appended together
all : (out a b d e f g h : List ℕ) (k : Counters)
    → a ≡ out ++ count_text (codes "starts ") k.starts → b ≡ a ++ count_text (codes " stalls ") k.stalls → d ≡ b ++ count_text (codes " restarts ") k.restarts
    → e ≡ d ++ count_text (codes " abdications ") k.abdications → f ≡ e ++ count_text (codes " enqueues ") k.enqueues → g ≡ f ++ count_text (codes " drops ") k.drops
    → h ≡ g ++ codes "\n" → h ≡ out ++ counters_line k
unfolding counters_line
all out a b d e f g h k p1 p2 p3 p4 p5 p6 p7 =
    let s1 = count_text (codes "starts ") k.starts in let s2 = count_text (codes " stalls ") k.stalls in let s3 = count_text (codes " restarts ") k.restarts in
    let s4 = count_text (codes " abdications ") k.abdications in let s5 = count_text (codes " enqueues ") k.enqueues in let s6 = count_text (codes " drops ") k.drops in
    p7 ∙ ap (λ (z : List ℕ). z ++ codes "\n") (p6 ∙ ap (λ (z : List ℕ). z ++ s6) (p5 ∙ ap (λ (z : List ℕ). z ++ s5) (p4 ∙ ap (λ (z : List ℕ). z ++ s4) (p3 ∙ ap (λ (z : List ℕ). z ++ s3)
    (p2 ∙ ap (λ (z : List ℕ). z ++ s2) p1 ∙ append_assoc out s1 s2) ∙ append_assoc out (s1 ++ s2) s3) ∙ append_assoc out (s1 ++ s2 ++ s3) s4)
    ∙ append_assoc out (s1 ++ s2 ++ s3 ++ s4) s5) ∙ append_assoc out (s1 ++ s2 ++ s3 ++ s4 ++ s5) s6) ∙ append_assoc out (s1 ++ s2 ++ s3 ++ s4 ++ s5 ++ s6) (codes "\n")

pub returns : goal.returns
returns c = all c.args.out.now.items c.put_count.new.out.items c.put_count-2.new.out.items c.put_count-3.new.out.items c.put_count-4.new.out.items c.put_count-5.new.out.items c.put_count-6.new.out.items
    c.extend_from_slice.new.self.items c.args.c.now c.in_ok-put_count.ensures c.in_ok-put_count-2.ensures c.in_ok-put_count-3.ensures c.in_ok-put_count-4.ensures
    c.in_ok-put_count-5.ensures c.in_ok-put_count-6.ensures c.in_ok-extend_from_slice.ensures.items
