-- A record that is put behind what was written.
use Rattle.std.proofs.Common.{◌≡◌, ℕ, ◌+◌, ◌<◌, List, [], ◌∷◌, ◌++◌, length, get_or, take, drop, refl, sym, ap, ◌∙◌, append_assoc, arith}
use Rattle.std.specs.List.{flat_map, AllByRecursion}
use Rattle.std.proofs.lemmas.Grind.{flat_map-append}
use Rattle.std.proofs.lemmas.List.{take_more, append-nil}
use Rattle.std.proofs.lemmas.List.Concat.{flat_map-cons}
use Rattle.ifl_pcap.specs.declared.frame.Frame.{Frame}
use Rattle.ifl_pcap.specs.declared.form.Order.TheVariants.{Little}
use Rattle.ifl_pcap.specs.Numbers.{spelled_in}
use Rattle.ifl_pcap.specs.File.{record_of, Fits, AreRecords, HasHeader, IsFile, written_form, written_header, written}

append_assoc-four : (o a b c d e : List ℕ) → ((((o ++ a) ++ b) ++ c) ++ d) ++ e ≡ o ++ (a ++ (b ++ (c ++ (d ++ e))))
append_assoc-four o a b c d e = simp append_assoc

-- the parts of a record, put one after another
pub append-record_of : (o : List ℕ) (f : Frame) → ((((o ++ spelled_in Little f.stamp.sec) ++ spelled_in Little f.stamp.usec) ++ spelled_in Little (length f.bytes)) ++ spelled_in Little f.stamp.orig) ++ f.bytes ≡ o ++ record_of f
append-record_of o f = append_assoc-four o (spelled_in Little f.stamp.sec) (spelled_in Little f.stamp.usec) (spelled_in Little (length f.bytes)) (spelled_in Little f.stamp.orig) f.bytes

flat_map-one : {X : Type 0} (g : X → List ℕ) (x : X) → flat_map g (x ∷ []) ≡ g x
flat_map-one g x = flat_map-cons g x [] ∙ append-nil (g x)

-- one more element, in a loop that appends what g makes of each
pub flat_map-take_more : {X : Type 0} (g : X → List ℕ) (h : List ℕ) (xs : List X) (i : ℕ) (x : X) (out new : List ℕ) → i < length xs → x ≡ get_or xs i x → out ≡ h ++ flat_map g (take i xs) → new ≡ out ++ g x → new ≡ h ++ flat_map g (take (i + 1) xs)
flat_map-take_more g h xs i x out new lt is inv added =
    let more = take_more xs i x lt ∙ ap (λ (y : _). take i xs ++ y ∷ []) (sym is) in
    let all : flat_map g (take (i + 1) xs) ≡ flat_map g (take i xs) ++ g x = ap (flat_map g) more ∙ flat_map-append g (take i xs) (x ∷ []) ∙ ap (λ (r : List ℕ). flat_map g (take i xs) ++ r) (flat_map-one g x) in
    added ∙ ap (λ (o : List ℕ). o ++ g x) inv ∙ append_assoc h (flat_map g (take i xs)) (g x) ∙ ap (λ (r : List ℕ). h ++ r) (sym all)

-- written records are those of their frames
AreRecords-flat_map : (fs : List Frame) → AllByRecursion Fits fs → AreRecords written_form fs (flat_map record_of fs) []
AreRecords-flat_map [] fit = refl
AreRecords-flat_map (f ∷ fs) fit =
    (flat_map record_of fs, record { fraction = f.stamp.usec; counted = fit.0.usec; time = refl; fit = fit.0; parts = flat_map-cons record_of f fs }, AreRecords-flat_map fs fit.1)

HasHeader-written_header : (rest : List ℕ) → HasHeader written_form (written_header ++ rest)
unfolding written_header
HasHeader-written_header rest = record { long = omega arith; begins = refl; revision = refl; link = refl }

drop-written_header : (rest : List ℕ) → drop 24 (written_header ++ rest) ≡ rest
unfolding written_header
drop-written_header rest = refl

-- what is written for frames is a file of them
pub IsFile-written : (fs : List Frame) → AllByRecursion Fits fs → IsFile (written fs) fs
IsFile-written fs fit = record {
  form = written_form;
  header = HasHeader-written_header (flat_map record_of fs);
  records = rw drop-written_header (AreRecords-flat_map fs fit);
}
