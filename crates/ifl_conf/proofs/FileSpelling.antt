-- FILE words are read as they are written, and what is read was written so.
use Rattle.std.proofs.Common.{◌≡◌, ℕ, true, false, List, [], ◌∷◌, Some, codes, refl, ap, sym, ◌∙◌, inl, inr}
use Rattle.std.proofs.Common.{subst}
use Rattle.std.specs.List.{list_all}
use Rattle.std.specs.Str.{bytes_eq}
use Rattle.std.proofs.lemmas.Bool.{and_parts, cases_Bool, false≢true}
use Rattle.std.proofs.lemmas.Option.{same_Some, cond_some}
use Rattle.std.proofs.lemmas.Slice.Eq.{bytes_eq-Decides}
use Rattle.ifl_conf.specs.Front.{is_plain}
use Rattle.ifl_conf.specs.FileWords.{is_filled, files_of}
use Rattle.ifl_conf.specs.Spelling.{Files, plain_files, marked_files, file_words, files_in, are_files, AreFileWords}

-- the mark is no plain word
mark_not_plain : is_plain (codes "--") ≡ false
unfolding is_plain
mark_not_plain = refl

-- a plain word is not the mark
plain_no_mark : (w : List ℕ) → is_plain w ≡ true → bytes_eq w (codes "--") ≡ false
plain_no_mark w h =
    elim (cases_Bool (bytes_eq w (codes "--"))) [
      | inl mark ↦ absurd (false≢true (sym mark_not_plain ∙ subst (λ t. is_plain t ≡ true) ((bytes_eq-Decides w (codes "--")).0 mark) h))
      | inr other ↦ other
    ]

-- what is written is read
pub files_of_file_words : (fs : Files) → are_files fs ≡ true → files_of (file_words fs) ≡ Some (files_in fs)
unfolding files_of
files_of_file_words (plain_files []) h = refl
files_of_file_words (plain_files (w ∷ ws)) h =
    let (here, more) = and_parts (is_plain w) (list_all is_plain ws) h in
    rw (plain_no_mark w here, h) refl
files_of_file_words (marked_files ws) h = rw h refl

-- what is read is written so
pub files_of_written : (ws fs : List (List ℕ)) → files_of ws ≡ Some fs → AreFileWords ws fs
unfolding files_of
files_of_written [] fs h = record { files = plain_files []; words = refl; given = same_Some [] fs h; fits = refl }
files_of_written (w ∷ ws) fs h =
    elim (cases_Bool (bytes_eq w (codes "--"))) [
      | inl mark ↦
          let (filled, same) = cond_some (list_all is_filled ws) ws fs (rw mark at h) in
          record { files = marked_files ws; words = ap (λ t. t ∷ ws) (sym ((bytes_eq-Decides w (codes "--")).0 mark)); given = same; fits = filled }
      | inr other ↦
          let (plain, same) = cond_some (list_all is_plain (w ∷ ws)) (w ∷ ws) fs (rw other at h) in
          record { files = plain_files (w ∷ ws); words = refl; given = same; fits = plain }
    ]
