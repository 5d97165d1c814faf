use Rattle.std.proofs.Common.{◌≡◌, ◌≤◌, ◌∷◌, ◌++◌, [], ℕ, List, length, map, Ok, sym, ap, subst, ◌∙◌, append_assoc, length-append, arith}
use Rattle.std.specs.Prelude.{All}
use Rattle.std.specs.Global.{Vec}
use Rattle.std.specs.Vec.Iter.{into_iter_items}
use Rattle.std.proofs.lemmas.List.{length-map, map-append}
use Rattle.std.proofs.lemmas.List.Elements.{All-push, All-tail}
use Rattle.std.proofs.lemmas.Result.{err_from_is_err_and}
use Rattle.ifl_pcap.specs.declared.frame.Frame.{Frame}
use Rattle.ifl_engine.specs.Loading.{each_from, capture_in}
use Rattle.ifl_engine.specs.Loaded.{bytes_of, frames_of, each_frames}
use Rattle.ifl_engine.specs.Steps.{AreWithin, IsSmall}
use Rattle.ifl_engine.proofs.Each.{each_from-more, each_from-stopped}
use Rattle.ifl_engine.proofs.gathering.all_parsed.Goals as goal

pub returns-in_err-capture-clause-read : goal.returns-in_err-capture-clause-read
returns-in_err-capture-clause-read c =
    let stopped = err_from_is_err_and c.from_residual.result c.from_residual.ensures.1 in
    let at = c.loop-bytes in
    let x = c.in-Some.bytes in
    let rest : List (Vec ℕ) = into_iter_items c.next.new.self in
    let steps : into_iter_items at.bytes-iterator ≡ x ∷ rest = c.in-Some.ensures.steps.0 in
    let all : map bytes_of c.args.files.items ≡ map bytes_of at.yielded ++ x.items ∷ map bytes_of rest = ap (map bytes_of) (sym at.invariant.all ∙ ap (λ (z : List (Vec ℕ)). at.yielded ++ z) steps) ∙ map-append bytes_of at.yielded (x ∷ rest) in
    let number : at.number ≡ length (map bytes_of at.yielded) = at.invariant.number ∙ sym (length-map at.yielded bytes_of) in
    rw (stopped.1, stopped.2, all) (each_from-stopped frames_of each_frames capture_in at.number (map bytes_of at.yielded) x.items (map bytes_of rest) (each_frames at.captures) c.in_err-capture.field-0.0 number at.invariant.read c.in_err-capture.ensures.read)

pub loop-bytes-preserved : goal.loop-bytes-preserved
loop-bytes-preserved c =
    let at = c.loop-bytes in
    let x = c.in-Some.bytes in
    let rest : List (Vec ℕ) = into_iter_items c.next.new.self in
    let steps : into_iter_items at.bytes-iterator ≡ x ∷ rest = c.in-Some.ensures.steps.0 in
    let gone = c.in-Some.ensures.steps.1 in
    let push = c.push_reserved.ensures in
    let within : AreWithin (x ∷ rest) = subst AreWithin steps at.invariant.within in
    let number : at.number ≡ length (map bytes_of at.yielded) = at.invariant.number ∙ sym (length-map at.yielded bytes_of) in
    let all : each_frames c.push_reserved.new.self ≡ each_frames at.captures ++ c.in_ok-capture.capture.frames ∷ [] = ap (map frames_of) push.items ∙ map-append frames_of at.captures.items (c.in_ok-capture.capture ∷ []) in
    let longer = length-append at.yielded (x ∷ []) in
    record {
      all = append_assoc at.yielded (x ∷ []) rest ∙ rw (← steps) at.invariant.all;
      left = omega (arith, gone, at.invariant.left, ap length steps);
      within = All-tail (λ (v : Vec ℕ). length v.items ≤ 67108864) x rest within;
      read = ap (each_from capture_in 0) (map-append bytes_of at.yielded (x ∷ []))
          ∙ each_from-more capture_in at.number (map bytes_of at.yielded) x.items (each_frames at.captures) c.in_ok-capture.capture.frames number at.invariant.read c.in_ok-capture.ensures.read ∙ ap (λ (z : List (List Frame)). Ok z) (sym all);
      small = subst (All IsSmall) (sym all) (All-push IsSmall (each_frames at.captures) c.in_ok-capture.capture.frames at.invariant.small c.in_ok-capture.ensures.small);
      number = omega (arith, longer, at.invariant.number);
      many = omega (arith, longer, at.invariant.many, push.len);
      room = omega (arith, at.invariant.room, push.len, push.capacity, ap length steps);
    }
