-- Bytes that are UTF-8, and a document.
use Rattle.std.proofs.Common.{◌≡◌, ℕ, List, None, Some, inl, inr}
use Rattle.std.specs.Prelude.{IsUtf8}
use Rattle.std.specs.Str.{is_utf8}
use Rattle.std.proofs.lemmas.Bool.{cases_Bool}
use Rattle.std.proofs.lemmas.Str.{IsUtf8-from_is_utf8, is_utf8-from_IsUtf8}
use Rattle.toml.specs.Data.{Members}
use Rattle.toml.specs.Parse.{parse_document}
use Rattle.ifl_conf.specs.Documents.{document_of}

-- UTF-8 that is parsed is a document
pub document_from_parts : (bytes : List ℕ) (ms : Members) → IsUtf8 bytes → parse_document bytes ≡ Some ms → document_of bytes ≡ Some ms
document_from_parts bytes ms u h = rw (is_utf8-from_IsUtf8 bytes u) h

-- bytes that are not UTF-8, or are not parsed, are no document
pub no_document_from_parts : (bytes : List ℕ) → (IsUtf8 bytes → parse_document bytes ≡ None) → document_of bytes ≡ None
no_document_from_parts bytes h =
    elim (cases_Bool (is_utf8 bytes)) [
      | inl text ↦ rw text (h (IsUtf8-from_is_utf8 bytes text))
      | inr other ↦ rw other
    ]
