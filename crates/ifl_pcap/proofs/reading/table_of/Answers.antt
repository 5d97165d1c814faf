use Rattle.std.proofs.Common.{sym, subst, ◌∙◌, arith}
use Rattle.std.proofs.lemmas.Result.{err_from_is_err_and}
use Rattle.ifl_pcap.specs.Reading.{Fails}
use Rattle.ifl_pcap.specs.Table.{frames_in}
use Rattle.ifl_pcap.proofs.Files.{capture_of-header_at, no_header, IsFile-capture_of, IsFaultOf-Fails, IsFaultOf-Err}
use Rattle.ifl_pcap.proofs.reading.table_of.Goals as goal

pub returns-in_err-form-clause-fault : goal.returns-in_err-form-clause-fault
returns-in_err-form-clause-fault c =
    let p = err_from_is_err_and c.from_residual.result c.from_residual.ensures.1 in
    rw (p.1, p.2) (IsFaultOf-Err c.args.bytes.now c.in_err-form.field-0.0 (λ i. omega (arith, c.type_inv.bytes i)) (no_header c.args.bytes.now c.in_err-form.field-0.0 (sym c.in_err-form.ensures.form)))

pub returns-in_err-places-clause-fault : goal.returns-in_err-places-clause-fault
returns-in_err-places-clause-fault c =
    let p = err_from_is_err_and c.from_residual-in_err-places.result c.from_residual-in_err-places.ensures.1 in
    let behind = sym (capture_of-header_at c.in_ok-form.form c.args.bytes.now (sym c.in_ok-form.ensures.form)) in
    rw (p.1, p.2) (IsFaultOf-Fails c.args.bytes.now c.in_err-places.field-0.0 (λ i. omega (arith, c.type_inv.bytes i)) (subst (Fails c.in_err-places.field-0.0) behind c.in_err-places.ensures.read))

pub returns-clause-found : goal.returns-clause-found
returns-clause-found c =
    IsFile-capture_of c.args.bytes.now (frames_in c.in_ok-form.form c.args.bytes.now c.in_ok-places.places.items) (λ i. omega (arith, c.type_inv.bytes i))
    (capture_of-header_at c.in_ok-form.form c.args.bytes.now (sym c.in_ok-form.ensures.form) ∙ c.in_ok-places.ensures.read)
