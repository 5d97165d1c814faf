-- The entries of a host in memory as files: names and bytes, and not where they lie.
use Rattle.std.specs.Prelude.{ℕ, List, map}
use Rattle.std.specs.String.{string_bytes}
use Rattle.ifl_outside.specs.declared.entry.FileEntry.{FileEntry}
use Rattle.ifl_outside.specs.Files.{Files}

-- an entry's name and bytes
abbrev pub named : FileEntry → List ℕ × List ℕ
named e = (string_bytes e.name, e.bytes)

abbrev pub files_of : List FileEntry → Files
files_of es = map named es
