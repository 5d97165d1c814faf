use Rattle.std.proofs.Common.{subst, sym, ◌∙◌}
use Rattle.std.proofs.lemmas.Result.{err_from_is_err_and}
use Rattle.ifl_pcap.specs.Reading.{Fails}
use Rattle.ifl_pcap.proofs.Files.{capture_of-IsFile, capture_of-IsFirstFault}
use Rattle.ifl_pcap.proofs.reading.read_capture.Goals as goal

pub returns-clause-only : goal.returns-clause-only
returns-clause-only c = λ fs file. let read = rw c.deref.ensures.value at c.in_ok-form.ensures.read in sym (capture_of-IsFile c.args.bytes.items fs file) ∙ read

pub returns-clause-first : goal.returns-clause-first
returns-clause-first c = λ at why fault. let read = rw c.deref.ensures.value at c.in_ok-form.ensures.read in sym (capture_of-IsFirstFault c.args.bytes.items at why fault) ∙ read

pub returns-in_err-form-clause-only : goal.returns-in_err-form-clause-only
returns-in_err-form-clause-only c = λ fs file.
    let p = err_from_is_err_and c.from_residual.result c.from_residual.ensures.1 in
    let read = rw c.deref.ensures.value at c.in_err-form.ensures.read in
    rw (p.1, p.2) (subst (λ f. Fails c.in_err-form.field-0.0 f) (capture_of-IsFile c.args.bytes.items fs file) read)

pub returns-in_err-form-clause-first : goal.returns-in_err-form-clause-first
returns-in_err-form-clause-first c = λ at why fault.
    let p = err_from_is_err_and c.from_residual.result c.from_residual.ensures.1 in
    let read = rw c.deref.ensures.value at c.in_err-form.ensures.read in
    rw (p.1, p.2) (subst (λ f. Fails c.in_err-form.field-0.0 f) (capture_of-IsFirstFault c.args.bytes.items at why fault) read)
