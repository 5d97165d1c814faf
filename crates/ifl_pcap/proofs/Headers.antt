-- A header is read as its form, and bytes at whose front no header stands have their first fault there.
use Rattle.std.proofs.Common.{◌≡◌, ◌≢◌, ◌⊎◌, ℕ, ◌<◌, ◌≤◌, true, false, List, length, take, drop, Some, None, Ok, refl, sym, ap, ◌∙◌, inl, inr}
use Rattle.std.specs.Str.{bytes_eq}
use Rattle.std.proofs.lemmas.Bool.{cases_lt, cases_Bool, lt-ltb, le-ltb, false_from_ne_true, true≢false}
use Rattle.std.proofs.lemmas.Slice.Eq.{bytes_eq-Decides}
use Rattle.ifl_pcap.specs.declared.form.Order.{Order}
use Rattle.ifl_pcap.specs.declared.form.Order.TheVariants.{Little, Big}
use Rattle.ifl_pcap.specs.declared.form.Fraction.{Fraction}
use Rattle.ifl_pcap.specs.declared.form.Fraction.TheVariants.{Micros, Nanos}
use Rattle.ifl_pcap.specs.declared.form.Form.{Form}
use Rattle.ifl_pcap.specs.declared.fault.CaptureWhy.{CaptureWhy}
use Rattle.ifl_pcap.specs.declared.fault.CaptureWhy.TheVariants.{Short, Magic, Version, Link}
use Rattle.ifl_pcap.specs.File.{magic, magic_of, version, ethernet, link_place, HasHeader}
use Rattle.ifl_pcap.specs.Faults.{IsFirstFault, IsOtherVersion, IsOtherLink}
use Rattle.ifl_pcap.specs.Reading.{bad, form_of, header_at}

bytes_eq-same : (xs ys : List ℕ) → xs ≡ ys → bytes_eq xs ys ≡ true
bytes_eq-same xs ys is = (bytes_eq-Decides xs ys).1 is

bytes_eq-other : (xs ys : List ℕ) → xs ≢ ys → bytes_eq xs ys ≡ false
bytes_eq-other xs ys not = false_from_ne_true (bytes_eq xs ys) (λ e. not ((bytes_eq-Decides xs ys).0 e))

-- the one or the other
same_or_other : (xs ys : List ℕ) → (xs ≡ ys) ⊎ (xs ≢ ys)
same_or_other xs ys =
    elim (cases_Bool (bytes_eq xs ys)) [
      | inl same ↦ inl ((bytes_eq-Decides xs ys).0 same)
      | inr other ↦ inr (λ is. true≢false (sym (bytes_eq-same xs ys is) ∙ other))
    ]

abbrev form_with : Order → Fraction → Form
form_with order fraction = record { order = order; fraction = fraction }

form_of-magic_of : (order : Order) (fraction : Fraction) → form_of (magic_of order fraction) ≡ Some (form_with order fraction)
unfolding form_of
form_of-magic_of Little Micros = refl
form_of-magic_of Little Nanos = refl
form_of-magic_of Big Micros = refl
form_of-magic_of Big Nanos = refl

form_of-is : (form : Form) (bytes : List ℕ) → bytes ≡ magic form → form_of bytes ≡ Some form
form_of-is form bytes is = ap form_of is ∙ form_of-magic_of form.order form.fraction

form_of-none : (bytes : List ℕ) → ((form : Form) → bytes ≢ magic form) → form_of bytes ≡ None
unfolding form_of
form_of-none bytes not =
    rw (
      bytes_eq-other bytes (magic_of Little Micros) (not (form_with Little Micros)),
      bytes_eq-other bytes (magic_of Little Nanos) (not (form_with Little Nanos)),
      bytes_eq-other bytes (magic_of Big Micros) (not (form_with Big Micros)),
      bytes_eq-other bytes (magic_of Big Nanos) (not (form_with Big Nanos)),
    ) refl

none_of : (bytes : List ℕ) → bytes ≢ magic_of Little Micros → bytes ≢ magic_of Little Nanos → bytes ≢ magic_of Big Micros → bytes ≢ magic_of Big Nanos → (order : Order) (fraction : Fraction) → bytes ≢ magic_of order fraction
none_of bytes a b c d Little Micros = a
none_of bytes a b c d Little Nanos = b
none_of bytes a b c d Big Micros = c
none_of bytes a b c d Big Nanos = d

-- the form whose magic it is, or none
magic_or_not : (bytes : List ℕ) → ((form : Form) × (bytes ≡ magic form)) ⊎ ((form : Form) → bytes ≢ magic form)
magic_or_not bytes =
    elim (same_or_other bytes (magic_of Little Micros)) [
      | inl is ↦ inl (form_with Little Micros, is)
      | inr not_a ↦ elim (same_or_other bytes (magic_of Little Nanos)) [
        | inl is ↦ inl (form_with Little Nanos, is)
        | inr not_b ↦ elim (same_or_other bytes (magic_of Big Micros)) [
          | inl is ↦ inl (form_with Big Micros, is)
          | inr not_c ↦ elim (same_or_other bytes (magic_of Big Nanos)) [
            | inl is ↦ inl (form_with Big Nanos, is)
            | inr not_d ↦ inr (λ form. none_of bytes not_a not_b not_c not_d form.order form.fraction)
          ]
        ]
      ]
    ]

pub header_at-HasHeader : (form : Form) (bytes : List ℕ) → HasHeader form bytes → header_at bytes ≡ Ok form
unfolding header_at
header_at-HasHeader form bytes h =
    let o = form.order in
    rw (le-ltb _ _ h.long, form_of-is form (take 4 bytes) h.begins, bytes_eq-same (take 4 (drop 4 bytes)) (version o) h.revision, bytes_eq-same (take 2 (drop (link_place o) bytes)) (ethernet o) h.link) refl

pub header_at-Short : (bytes : List ℕ) → length bytes < 24 → header_at bytes ≡ bad 0 Short
unfolding header_at
header_at-Short bytes short = rw (lt-ltb _ _ short) refl

pub header_at-Magic : (bytes : List ℕ) → 24 ≤ length bytes → ((form : Form) → take 4 bytes ≢ magic form) → header_at bytes ≡ bad 0 Magic
unfolding header_at
header_at-Magic bytes long not = rw (le-ltb _ _ long, form_of-none (take 4 bytes) not) refl

pub header_at-Version : (form : Form) (bytes : List ℕ) → IsOtherVersion form bytes → header_at bytes ≡ bad 4 Version
unfolding header_at
header_at-Version form bytes h =
    rw (le-ltb _ _ h.long, form_of-is form (take 4 bytes) h.begins, bytes_eq-other (take 4 (drop 4 bytes)) (version form.order) h.wrong) refl

pub header_at-Link : (form : Form) (bytes : List ℕ) → IsOtherLink form bytes → header_at bytes ≡ bad 20 Link
unfolding header_at
header_at-Link form bytes h =
    let o = form.order in
    rw (le-ltb _ _ h.long, form_of-is form (take 4 bytes) h.begins, bytes_eq-same (take 4 (drop 4 bytes)) (version o) h.revision, bytes_eq-other (take 2 (drop (link_place o) bytes)) (ethernet o) h.wrong) refl

-- the bytes have a first fault
pub record HasFault (bytes : List ℕ) : Type 0 where
  pub at : ℕ
  pub why : CaptureWhy
  pub first : IsFirstFault bytes at why

-- the bytes begin with a header
pub record HasForm (bytes : List ℕ) : Type 0 where
  pub form : Form
  pub header : HasHeader form bytes

header_with : (form : Form) (bytes : List ℕ) → 24 ≤ length bytes → take 4 bytes ≡ magic form → HasForm bytes ⊎ HasFault bytes
header_with form bytes long begins =
    let o = form.order in
    elim (same_or_other (take 4 (drop 4 bytes)) (version o)) [
      | inr other ↦ inr (record { at = 4; why = Version; first = (refl, form, record { long = long; begins = begins; wrong = other }) })
      | inl same ↦ elim (same_or_other (take 2 (drop (link_place o) bytes)) (ethernet o)) [
        | inr other ↦ inr (record { at = 20; why = Link; first = (refl, form, record { long = long; begins = begins; revision = same; wrong = other }) })
        | inl link ↦ inl (record { form = form; header = record { long = long; begins = begins; revision = same; link = link } })
      ]
    ]

pub header_or_fault : (bytes : List ℕ) → HasForm bytes ⊎ HasFault bytes
header_or_fault bytes =
    elim (cases_lt (length bytes) 24) [
      | inl short ↦ inr (record { at = 0; why = Short; first = (refl, short) })
      | inr long ↦ elim (magic_or_not (take 4 bytes)) [
        | inl p ↦ header_with p.0 bytes long p.1
        | inr none ↦ inr (record { at = 0; why = Magic; first = (refl, long, none) })
      ]
    ]
