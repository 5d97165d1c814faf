use Rattle.std.proofs.Common.{◌≡◌, ◌∙◌, ap, sym, subst, get_or}
use Rattle.std.specs.List.{position}
use Rattle.std.specs.String.{string_bytes}
use Rattle.ifl_outside.specs.declared.entry.FileEntry.{FileEntry}
use Rattle.ifl_outside.specs.Entries.{files_of}
use Rattle.ifl_outside.specs.Files.{Files, held, SameBut}
use Rattle.ifl_outside.proofs.Held.{bears}
use Rattle.ifl_outside.proofs.Putting.{files_of-set, files_of-append, held-put, SameBut-put}
use Rattle.ifl_outside.proofs.entry.put_entry.Goals as goal

pub returns-in-Some-clause-put : goal.returns-in-Some-clause-put
returns-in-Some-clause-put c =
    let entry : FileEntry = record { name = c.index_mut.result.now.name; bytes = c.from_vec-copy.result } in
    let same_name : string_bytes entry.name ≡ string_bytes (get_or c.args.files.now.items c.in-Some.i c.index_mut.result.now).name = ap (λ (e : FileEntry). string_bytes e.name) c.index_mut.ensures.value in
    rw (← (c.from_vec-copy.ensures ∙ c.in_ok-from_slice.ensures.items)) (files_of-set c.args.name.now c.args.files.now.items c.in-Some.i entry c.index_mut.result.now (c.in-Some.ensures ∙ ap (position (bears c.args.name.now)) c.deref.ensures.value) same_name)

pub returns-in-Some-clause-written : goal.returns-in-Some-clause-written
returns-in-Some-clause-written c = ap (λ (fs : Files). held fs c.args.name.now) (returns-in-Some-clause-put c) ∙ held-put c.args.name.now c.args.bytes.now (files_of c.args.files.now.items)

pub returns-in-Some-clause-others : goal.returns-in-Some-clause-others
returns-in-Some-clause-others c = subst (SameBut c.args.name.now (files_of c.args.files.now.items)) (sym (returns-in-Some-clause-put c)) (SameBut-put c.args.name.now c.args.bytes.now (files_of c.args.files.now.items))

pub returns-in_ok-push-in-None-clause-put : goal.returns-in_ok-push-in-None-clause-put
returns-in_ok-push-in-None-clause-put c =
    let entry : FileEntry = record { name = c.in_ok-name-in-None.name; bytes = c.from_vec-copy.result } in
    rw (c.in_ok-push-in-None.ensures.items, ← (c.from_vec-copy.ensures ∙ c.in_ok-from_slice.ensures.items)) (files_of-append c.args.name.now c.args.files.now.items entry (c.in-None.ensures ∙ ap (position (bears c.args.name.now)) c.deref.ensures.value) c.in_ok-name-in-None.ensures.ok)

pub returns-in_ok-push-in-None-clause-written : goal.returns-in_ok-push-in-None-clause-written
returns-in_ok-push-in-None-clause-written c = ap (λ (fs : Files). held fs c.args.name.now) (returns-in_ok-push-in-None-clause-put c) ∙ held-put c.args.name.now c.args.bytes.now (files_of c.args.files.now.items)

pub returns-in_ok-push-in-None-clause-others : goal.returns-in_ok-push-in-None-clause-others
returns-in_ok-push-in-None-clause-others c = subst (SameBut c.args.name.now (files_of c.args.files.now.items)) (sym (returns-in_ok-push-in-None-clause-put c)) (SameBut-put c.args.name.now c.args.bytes.now (files_of c.args.files.now.items))
