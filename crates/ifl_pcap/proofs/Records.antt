-- A record is read as its frame, and bytes at whose front no record stands have what is wrong there.
use Rattle.std.proofs.Common.{◌≡◌, ℕ, ◌+◌, ◌^◌, ◌<◌, ◌≤◌, ◌⊎◌, false, ltb, List, ◌++◌, length, take, drop, Result, Ok, refl, sym, ap, subst, ◌∙◌, arith, inl, inr}
use Rattle.std.proofs.lemmas.Bool.{cases_lt, lt-ltb, le-ltb}
use Rattle.std.proofs.lemmas.List.{take_at, drop_at, take-append-drop, length-append, length-take, length-drop}
use Rattle.ifl_pcap.specs.declared.form.Fraction.{Fraction}
use Rattle.ifl_pcap.specs.declared.form.Fraction.TheVariants.{Micros, Nanos}
use Rattle.ifl_pcap.specs.declared.form.Form.{Form}
use Rattle.ifl_pcap.specs.declared.frame.Frame.{Frame}
use Rattle.ifl_pcap.specs.declared.fault.CaptureWhy.{CaptureWhy}
use Rattle.ifl_pcap.specs.declared.fault.CaptureWhy.TheVariants.{Short, Magic, Version, Link, RecordShort, TooLong}
use Rattle.ifl_pcap.specs.declared.fault.CaptureFault.{CaptureFault}
use Rattle.ifl_pcap.specs.Numbers.{spelled_in, number_in}
use Rattle.ifl_pcap.specs.File.{micros, record_with, IsRecord}
use Rattle.ifl_pcap.specs.Faults.{announced, IsBadRecord}
use Rattle.ifl_pcap.specs.Reading.{bad, stamp_at, frame_at}
use Rattle.ifl_pcap.specs.Table.{front_frame}
use Rattle.ifl_pcap.proofs.Numbers.{IsBytes, IsBytes-drop, spelled_in-number_in, number_in-spelled_in, number_in-lt}
use Rattle.ifl_pcap.proofs.Parts.{length-record_with, append_assoc-five, parts_of, behind}

micros-le : (unit : Fraction) (n : ℕ) → micros unit n ≤ n
micros-le Micros n = omega arith
micros-le Nanos n = omega arith

-- the frame at the front of bytes that hold it
abbrev whole_frame : Form → List ℕ → Frame
whole_frame form bytes = front_frame form (announced form.order bytes) bytes

-- the four numbers of a record, from its parts
record Numbers (form : Form) (f : Frame) (fraction : ℕ) (bytes rest : List ℕ) : Type 0 where
  sec : number_in form.order bytes ≡ f.stamp.sec
  count : number_in form.order (drop 4 bytes) ≡ fraction
  len : announced form.order bytes ≡ length f.bytes
  orig : number_in form.order (drop 12 bytes) ≡ f.stamp.orig
  body : drop 16 bytes ≡ f.bytes ++ rest

numbers_of : (form : Form) (f : Frame) (bytes rest : List ℕ) (r : IsRecord form f bytes rest) → Numbers form f r.fraction bytes rest
numbers_of form f bytes rest r =
    let o = form.order in
    let len = length f.bytes in
    let three = spelled_in o f.stamp.orig ++ (f.bytes ++ rest) in
    let two = spelled_in o len ++ three in
    let one = spelled_in o r.fraction ++ two in
    let whole : bytes ≡ spelled_in o f.stamp.sec ++ one = r.parts ∙ append_assoc-five (spelled_in o f.stamp.sec) (spelled_in o r.fraction) (spelled_in o len) (spelled_in o f.stamp.orig) f.bytes rest in
    let at4 : drop 4 bytes ≡ one = behind o f.stamp.sec 0 bytes one whole in
    let at8 : drop 8 bytes ≡ two = behind o r.fraction 4 bytes two at4 in
    let at12 : drop 12 bytes ≡ three = behind o len 8 bytes three at8 in
    let at16 : drop 16 bytes ≡ f.bytes ++ rest = behind o f.stamp.orig 12 bytes (f.bytes ++ rest) at12 in
    let small : len < 2 ^ 32 = omega (arith, r.fit.bytes) in
    record {
      sec = ap (number_in o) whole ∙ number_in-spelled_in o f.stamp.sec one r.fit.sec;
      count = ap (number_in o) at4 ∙ number_in-spelled_in o r.fraction two r.counted;
      len = ap (number_in o) at8 ∙ number_in-spelled_in o len three small;
      orig = ap (number_in o) at12 ∙ number_in-spelled_in o f.stamp.orig (f.bytes ++ rest) r.fit.orig;
      body = at16;
    }

stamp_at-is : (form : Form) (f : Frame) (fraction : ℕ) (bytes rest : List ℕ) → f.stamp.usec ≡ micros form.fraction fraction → Numbers form f fraction bytes rest → stamp_at form bytes ≡ f.stamp
unfolding stamp_at
stamp_at-is form f fraction bytes rest time n = rw (n.sec, n.count, n.orig, ← time) refl

-- the frame of a record is read at its front
pub front_frame-IsRecord : (form : Form) (f : Frame) (bytes rest : List ℕ) → IsRecord form f bytes rest → front_frame form (length f.bytes) bytes ≡ f
front_frame-IsRecord form f bytes rest r =
    let n = numbers_of form f bytes rest r in
    rw (n.body, take_at f.bytes rest (length f.bytes) refl, stamp_at-is form f r.fraction bytes rest r.time n) refl

pub length-IsRecord : (form : Form) (f : Frame) (bytes rest : List ℕ) → IsRecord form f bytes rest → length bytes ≡ 16 + length f.bytes + length rest
length-IsRecord form f bytes rest r =
    omega (arith, ap length r.parts, length-append (record_with form.order r.fraction f) rest, length-record_with form.order r.fraction f)

pub frame_at-IsRecord : (form : Form) (at : ℕ) (f : Frame) (bytes rest : List ℕ) → IsRecord form f bytes rest → frame_at form at bytes ≡ Ok (f, rest)
unfolding frame_at
frame_at-IsRecord form at f bytes rest r =
    let n = numbers_of form f bytes rest r in
    let long : ltb (length bytes) 16 ≡ false = le-ltb _ _ (omega (arith, length-IsRecord form f bytes rest r)) in
    let small : ltb 262144 (length f.bytes) ≡ false = le-ltb _ _ r.fit.bytes in
    let there : ltb (length (f.bytes ++ rest)) (length f.bytes) ≡ false = le-ltb _ _ (omega (arith, length-append f.bytes rest)) in
    rw (long, n.len, small, n.body, there, take_at f.bytes rest (length f.bytes) refl, drop_at f.bytes rest (length f.bytes) refl, stamp_at-is form f r.fraction bytes rest r.time n) refl

pub frame_at-IsBadRecord : (form : Form) (at : ℕ) (why : CaptureWhy) (bytes : List ℕ) → IsBadRecord form.order bytes why → frame_at form at bytes ≡ bad at why
unfolding frame_at
frame_at-IsBadRecord form at RecordShort bytes wrong =
    elim wrong [
      | inl short ↦ rw (lt-ltb _ _ short) refl
      | inr cut ↦ rw (le-ltb _ _ cut.0, le-ltb _ _ cut.1, lt-ltb (length (drop 16 bytes)) (announced form.order bytes) (omega (arith, cut.0, cut.2, length-drop 16 bytes))) refl
    ]
frame_at-IsBadRecord form at TooLong bytes wrong = rw (le-ltb _ _ wrong.0, lt-ltb _ _ wrong.1) refl
frame_at-IsBadRecord form at Short bytes wrong = absurd wrong
frame_at-IsBadRecord form at Magic bytes wrong = absurd wrong
frame_at-IsBadRecord form at Version bytes wrong = absurd wrong
frame_at-IsBadRecord form at Link bytes wrong = absurd wrong

-- a whole record is that of the frame that is read of it
whole_record : (form : Form) (bytes : List ℕ) → IsBytes bytes → 16 ≤ length bytes → announced form.order bytes ≤ 262144 → 16 + announced form.order bytes ≤ length bytes → IsRecord form (whole_frame form bytes) bytes (drop (announced form.order bytes) (drop 16 bytes))
unfolding stamp_at
whole_record form bytes fits long small there =
    let o = form.order in
    let len = announced o bytes in
    let body = take len (drop 16 bytes) in
    let after = drop len (drop 16 bytes) in
    let four : (n : ℕ) → n + 4 ≤ 16 → spelled_in o (number_in o (drop n bytes)) ≡ take 4 (drop n bytes) = λ n le. spelled_in-number_in o (drop n bytes) (omega (arith, le, long, length-drop n bytes)) (IsBytes-drop n bytes fits) in
    let count : length body ≡ len = omega (arith, there, length-take len (drop 16 bytes), length-drop 16 bytes) in
    let fraction = number_in o (drop 4 bytes) in
    record {
      fraction = fraction;
      counted = number_in-lt o (drop 4 bytes) (IsBytes-drop 4 bytes fits);
      time = refl;
      fit = record {
        sec = number_in-lt o bytes fits;
        usec = omega (arith, micros-le form.fraction fraction, number_in-lt o (drop 4 bytes) (IsBytes-drop 4 bytes fits));
        orig = number_in-lt o (drop 12 bytes) (IsBytes-drop 12 bytes fits);
        bytes = rw count small;
      };
      parts = parts_of (spelled_in o (number_in o bytes)) (spelled_in o fraction) (spelled_in o (length body)) (spelled_in o (number_in o (drop 12 bytes))) body after bytes (four 0 (omega arith)) (four 4 (omega arith)) (ap (spelled_in o) count ∙ four 8 (omega arith)) (four 12 (omega arith)) (take-append-drop len (drop 16 bytes));
    }

-- a frame's record stands at the front
pub record HasRecord (form : Form) (bytes : List ℕ) : Type 0 where
  pub frame : Frame
  pub rest : List ℕ
  pub is : IsRecord form frame bytes rest
  pub rest_fits : IsBytes rest

-- something is wrong at the front
pub record HasNone (form : Form) (bytes : List ℕ) : Type 0 where
  pub why : CaptureWhy
  pub wrong : IsBadRecord form.order bytes why

pub record_or_not : (form : Form) (bytes : List ℕ) → IsBytes bytes → HasRecord form bytes ⊎ HasNone form bytes
record_or_not form bytes fits =
    let len = announced form.order bytes in
    elim (cases_lt (length bytes) 16) [
      | inl short ↦ inr (record { why = RecordShort; wrong = inl short })
      | inr long ↦ elim (cases_lt 262144 len) [
        | inl much ↦ inr (record { why = TooLong; wrong = (long, much) })
        | inr small ↦ elim (cases_lt (length bytes) (16 + len)) [
          | inl cut ↦ inr (record { why = RecordShort; wrong = inr (long, small, cut) })
          | inr there ↦ inl (record { frame = whole_frame form bytes; rest = drop len (drop 16 bytes); is = whole_record form bytes fits long small there; rest_fits = IsBytes-drop len (drop 16 bytes) (IsBytes-drop 16 bytes fits) })
        ]
      ]
    ]

abbrev done : {A : Type 0} → A → Result A CaptureFault
done x = Ok x

pub ok_is : {A : Type 0} (x y : A) → done x ≡ done y → x ≡ y
ok_is x y e = cc

pub ok_or_bad : {A : Type 0} (x : A) (at : ℕ) (why : CaptureWhy) → bad at why ≡ Ok x → ⊥
ok_or_bad x at why e = cc

-- what was read of a record
pub record IsReadFrom (form : Form) (bytes : List ℕ) (x : Frame × List ℕ) : Type 0 where
  pub is : IsRecord form x.0 bytes x.1
  pub rest_fits : IsBytes x.1

pub IsReadFrom-frame_at : (form : Form) (at : ℕ) (bytes : List ℕ) (x : Frame × List ℕ) → IsBytes bytes → frame_at form at bytes ≡ Ok x → IsReadFrom form bytes x
IsReadFrom-frame_at form at bytes x fits e =
    elim (record_or_not form bytes fits) [
      | inl r ↦ subst (IsReadFrom form bytes) (ok_is (r.frame, r.rest) x (sym (frame_at-IsRecord form at r.frame bytes r.rest r.is) ∙ e)) (record { is = r.is; rest_fits = r.rest_fits })
      | inr n ↦ absurd (ok_or_bad x at n.why (sym (frame_at-IsBadRecord form at n.why bytes n.wrong) ∙ e))
    ]
