-- The file of a sender's capture, as it grows by a record at a time.
use Rattle.std.proofs.Common.{◌≡◌, ℕ, ◌+◌, List, [], ◌∷◌, ◌++◌, map, length, refl, sym, ap, ◌∙◌, append_assoc, length-append, arith}
use Rattle.std.specs.List.{range_with_len, flat_map}
use Rattle.std.proofs.lemmas.Grind.{flat_map-append}
use Rattle.std.proofs.lemmas.List.{append-nil}
use Rattle.std.proofs.lemmas.List.Concat.{flat_map-cons}
use Rattle.std.proofs.lemmas.List.FromFn.{map-range_with_len_more}
use Rattle.ifl_pcap.specs.declared.frame.Frame.{Frame}
use Rattle.ifl_pcap.specs.declared.form.Order.TheVariants.{Little}
use Rattle.ifl_pcap.specs.Numbers.{spelled_in}
use Rattle.ifl_pcap.specs.File.{record_of, written, written_header}
use Rattle.ifl_pcap.proofs.Numbers.{length-spelled_in}

pub length-written-nil : length (written []) ≡ 24
unfolding written_header
length-written-nil = refl

pub length-record_of : (f : Frame) → length (record_of f) ≡ 16 + length f.bytes
length-record_of f =
    let orig = spelled_in Little f.stamp.orig in
    let len = spelled_in Little (length f.bytes) in
    let usec = spelled_in Little f.stamp.usec in
    let sec = spelled_in Little f.stamp.sec in
    omega (
      arith,
      length-append sec (usec ++ (len ++ (orig ++ f.bytes))),
      length-append usec (len ++ (orig ++ f.bytes)),
      length-append len (orig ++ f.bytes),
      length-append orig f.bytes,
      length-spelled_in Little f.stamp.sec,
      length-spelled_in Little f.stamp.usec,
      length-spelled_in Little (length f.bytes),
      length-spelled_in Little f.stamp.orig,
    )

written-push : (fs : List Frame) (f : Frame) → written (fs ++ f ∷ []) ≡ written fs ++ record_of f
written-push fs f =
    ap (λ (r : List ℕ). written_header ++ r) (flat_map-append record_of fs (f ∷ []) ∙ ap (λ (r : List ℕ). flat_map record_of fs ++ r) (flat_map-cons record_of f [] ∙ append-nil (record_of f)))
    ∙ sym (append_assoc written_header (flat_map record_of fs) (record_of f))

-- the file of one more frame
pub written-more : (make : ℕ → Frame) (n : ℕ) → written (map make (range_with_len 0 (n + 1))) ≡ written (map make (range_with_len 0 n)) ++ record_of (make n)
written-more make n = ap written (map-range_with_len_more make 0 n n (omega arith)) ∙ written-push (map make (range_with_len 0 n)) (make n)

pub length-written-more : (make : ℕ → Frame) (n : ℕ) → length (written (map make (range_with_len 0 (n + 1)))) ≡ length (written (map make (range_with_len 0 n))) + (16 + length (make n).bytes)
length-written-more make n =
    omega (arith, ap length (written-more make n), length-append (written (map make (range_with_len 0 n))) (record_of (make n)), length-record_of (make n))
