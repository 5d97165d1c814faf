-- The length of a written capture, and what the frames of a file within the limit are.
use Rattle.std.proofs.Common.{◌≡◌, ℕ, suc, ◌+◌, ◌*◌, ◌≤◌, Bool, true, false, List, [], ◌∷◌, length, refl, ap, ⊎_elim, arith}
use Rattle.std.specs.Prelude.{cond, count_by, sum_by}
use Rattle.std.specs.List.{flat_map}
use Rattle.std.proofs.lemmas.List.{length-append}
use Rattle.std.proofs.lemmas.List.Concat.{flat_map-cons}
use Rattle.std.proofs.lemmas.List.Sums.{sum_by-cons}
use Rattle.ifl_pcap.specs.declared.frame.Frame.{Frame}
use Rattle.ifl_pcap.specs.File.{record_of, written, written_header, IsFile}
use Rattle.ifl_pcap.proofs.Parts.{length-record_of}
use Rattle.ifl_pcap.proofs.Files.{Fits-IsFile, length-IsFile}
use Rattle.ifl_ringcore.specs.declared.history.Meaning.{Meaning}
use Rattle.ifl_txq.specs.declared.line.OrderLine.{OrderLine}
use Rattle.ifl_txq.specs.Done.{is_wire}
use Rattle.ifl_line.specs.declared.rules.Rules.{Rules}
use Rattle.ifl_line.specs.Good.{ArePacketsOf, emitted}
use Rattle.ifl_line.proofs.Merging.{bool_cases}
use Rattle.ifl_engine.specs.Steps.{IsSmall}

length-records : (fs : List Frame) → length (flat_map record_of fs) ≡ 16 * length fs + sum_by (λ (f : Frame). length f.bytes) fs
length-records [] = refl
length-records (f ∷ fs) =
    let whole = ap length (flat_map-cons record_of f fs) in
    omega (arith, whole, length-append (record_of f) (flat_map record_of fs), length-record_of f, length-records fs, sum_by-cons (λ (g : Frame). length g.bytes) f fs)

pub length-written : (fs : List Frame) → length (written fs) ≡ 24 + 16 * length fs + sum_by (λ (f : Frame). length f.bytes) fs
unfolding written_header
length-written fs = omega (arith, length-append written_header (flat_map record_of fs), length-records fs)

pub is_small : (bytes : List ℕ) (fs : List Frame) → length bytes ≤ 67108864 → IsFile bytes fs → IsSmall fs
is_small bytes fs le file = record { fit = Fits-IsFile bytes fs file; few = omega (arith, le, length-IsFile bytes fs file) }

cond_true : (b : Bool) (n m : ℕ) → b ≡ true → cond b n m ≡ n
cond_true b n m t = rw t refl

cond_false : (b : Bool) (n m : ℕ) → b ≡ false → cond b n m ≡ m
cond_false b n m f = rw f refl

-- as many frames are on the wire as lines say so
pub length-emitted : (r : Rules) (files : List (List Frame)) (ls : List OrderLine) (ms : List Meaning) → ArePacketsOf r files ls ms → length (emitted files ls) ≡ count_by (λ (l : OrderLine). is_wire l.fate) ls
length-emitted r files [] ms h = refl
length-emitted r files (l ∷ ls) [] h = absurd h
length-emitted r files (l ∷ ls) (m ∷ ms) ((f, named, fit, is), more) =
    let rest : length (emitted files ls) ≡ count_by (λ (x : OrderLine). is_wire x.fate) ls = length-emitted r files ls ms more in
    let one : count_by (λ (x : OrderLine). is_wire x.fate) (l ∷ ls) ≡ cond (is_wire l.fate) 1 0 + count_by (λ (x : OrderLine). is_wire x.fate) ls = sum_by-cons (λ (x : OrderLine). cond (is_wire x.fate) 1 0) l ls in ⊎_elim
    (λ (t : is_wire l.fate ≡ true). (let e : emitted files (l ∷ ls) ≡ f ∷ emitted files ls = rw t (rw named refl) in
    let m : length (emitted files (l ∷ ls)) ≡ suc (length (emitted files ls)) = ap length e in let g = cond_true (is_wire l.fate) 1 0 t in omega (arith, m, rest, one, g)))
    (λ (n : is_wire l.fate ≡ false). (let e : emitted files (l ∷ ls) ≡ emitted files ls = rw n refl in
    let m : length (emitted files (l ∷ ls)) ≡ length (emitted files ls) = ap length e in let g = cond_false (is_wire l.fate) 1 0 n in omega (arith, m, rest, one, g)))
    (bool_cases (is_wire l.fate))
