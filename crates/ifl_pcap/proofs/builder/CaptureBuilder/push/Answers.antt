use Rattle.std.proofs.Common.{◌≡◌, length, Result, Ok, Err, rules}
use Rattle.std.specs.Prelude.{OnErr}
use Rattle.ifl_pcap.specs.File.{record_of, written_form}
use Rattle.ifl_pcap.proofs.Grown.{frames_in-append, frames_in-record_of, LiesIn-record_of}
use Rattle.ifl_pcap.proofs.builder.CaptureBuilder.push.Goals as goal

on_err : {T E : Type 0} (r : Result T E) (P : Type 0) → P → OnErr r P
on_err (Ok x) P h = tt
on_err (Err e) P h = h

pub returns-in_err-push-clause-err : goal.returns-in_err-push-clause-err
returns-in_err-push-clause-err c =
    on_err c.from_residual-in_err-push.result _
    (rw (← c.self.view_is, c.in_err-push.ensures.items, c.in_ok-put_frame.ensures.ok) (frames_in-append written_form c.self.inside.bytes.items (record_of c.args.frame.now) c.self.inside.places.items c.self.invariant))

pub invariant_of-self-2 : goal.invariant_of-self-2
invariant_of-self-2 c =
    let at_is : c.in-Ok.at ≡ length c.self.inside.bytes.items = search rules in
    LiesIn-record_of c.self.inside.bytes.items c.put_frame.new.out.items c.self.inside.places.items c.push.new.self.items c.in-Ok.at c.len-len.result c.args.frame.now c.self.invariant
    at_is c.len-len.ensures c.in_ok-put_frame.ensures.ok c.in_ok-push.ensures.items

pub returns-clause-ok : goal.returns-clause-ok
returns-clause-ok c =
    let at_is : c.in-Ok.at ≡ length c.self.inside.bytes.items = search rules in
    let words = c.in_ok-put_frame.ensures.words in
    rw (← c.self.view_is)
    (frames_in-record_of c.self.inside.bytes.items c.put_frame.new.out.items c.self.inside.places.items c.push.new.self.items c.in-Ok.at c.len-len.result c.args.frame.now
    (record { sec = words.0; usec = words.1; orig = words.2; bytes = c.requires }) c.self.invariant
    at_is c.len-len.ensures c.in_ok-put_frame.ensures.ok c.in_ok-push.ensures.items)
