use Rattle.std.proofs.Common.{◌≡◌, ℕ, List, ◌++◌, length, sym, ap, ◌∙◌}
use Rattle.std.proofs.lemmas.Result.{on_ok_weaker}
use Rattle.ifl_pcap.specs.declared.form.Order.TheVariants.{Little}
use Rattle.ifl_pcap.specs.Numbers.{spelled_in}
use Rattle.ifl_pcap.proofs.Written.{append-record_of}
use Rattle.ifl_gen.specs.Frames.{length_by, bytes_by, frame_by}
use Rattle.ifl_gen.proofs.Bytes.{length-bytes_by}
use Rattle.ifl_gen.proofs.file.put_record.Goals as goal

-- the length of the frame's bytes, as it is spelled
spelled_len : (x : ℕ) → spelled_in Little (length_by x) ≡ spelled_in Little (length (bytes_by x (length_by x)))
spelled_len x = ap (spelled_in Little) (sym (length-bytes_by x (length_by x)))

pub returns : goal.returns
returns c =
    let x = c.args.x in
    let len = c.frame_len-len.result in
    let old = c.args.out.now.items in
    let index = spelled_in Little c.args.index in
    let sender = spelled_in Little c.args.sender in
    let is = c.frame_len-len.ensures.value in
    on_ok_weaker c.put_bytes.result (λ put.
    put
    ∙ ap (λ (o : List ℕ). o ++ bytes_by x len) (
    c.in_ok-put_number-4.ensures
    ∙ ap (λ (o : List ℕ). o ++ spelled_in Little len) (
    c.in_ok-put_number-3.ensures ∙ ap (λ (o : List ℕ). o ++ spelled_in Little len) (c.in_ok-put_number-2.ensures ∙ ap (λ (o : List ℕ). o ++ sender) c.in_ok-put_number.ensures)
    )
    )
    ∙ ap (λ (n : ℕ). ((((old ++ index) ++ sender) ++ spelled_in Little n) ++ spelled_in Little n) ++ bytes_by x n) is
    ∙ ap (λ (s : List ℕ). ((((old ++ index) ++ sender) ++ s) ++ spelled_in Little (length_by x)) ++ bytes_by x (length_by x)) (spelled_len x)
    ∙ append-record_of old (frame_by c.args.sender c.args.index x)) c.put_bytes.ensures
