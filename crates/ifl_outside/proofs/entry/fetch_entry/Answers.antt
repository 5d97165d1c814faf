use Rattle.std.proofs.Common.{◌≡◌, ◌∙◌, ◌<◌, ◌≤◌, ap, sym, length, arith}
use Rattle.ifl_outside.specs.declared.entry.FileEntry.{FileEntry}
use Rattle.ifl_outside.proofs.Held.{held-none, held-longer, held-copied}
use Rattle.ifl_outside.proofs.entry.fetch_entry.Goals as goal

pub returns-in-None-clause-fetched : goal.returns-in-None-clause-fetched
returns-in-None-clause-fetched c = held-none c.args.name.now c.args.files.now c.in-None.ensures

pub returns-then-len-limit-clause-fetched : goal.returns-then-len-limit-clause-fetched
returns-then-len-limit-clause-fetched c =
    let long : c.args.limit < length c.index-files-i.result.bytes = omega (arith, c.len.ensures ∙ ap (λ (e : FileEntry). length e.bytes) (sym c.index-files-i.is)) in
    held-longer c.args.name.now c.args.files.now c.in-Some.i c.args.limit c.index-files-i.result c.in-Some.ensures c.index-files-i.is long

pub returns-in_ok-copy-in-Some-clause-fetched : goal.returns-in_ok-copy-in-Some-clause-fetched
returns-in_ok-copy-in-Some-clause-fetched c =
    let copy : c.from_vec.result ≡ c.index-files-i.result.bytes = c.from_vec.ensures ∙ c.in_ok-copy-in-Some.ensures.items ∙ c.as_slice.ensures ∙ ap (λ (e : FileEntry). e.bytes) (sym c.index-files-i.is) in
    let short : length c.index-files-i.result.bytes ≤ c.args.limit = omega (arith, c.len.ensures ∙ ap (λ (e : FileEntry). length e.bytes) (sym c.index-files-i.is)) in
    (held-copied c.args.name.now c.args.files.now c.in-Some.i c.index-files-i.result _ c.in-Some.ensures c.index-files-i.is copy, rw copy short)
