use Rattle.std.proofs.Common.{◌≡◌, ◌+◌, ◌≤◌, ◌++◌, [], ◌∷◌, length, map, get_or, take, sym, ap, ◌∙◌, arith}
use Rattle.std.proofs.lemmas.List.{map-append, take_more}
use Rattle.ifl_pcap.specs.declared.capture.Capture.{Capture}
use Rattle.ifl_line.specs.Works.{files_of}
use Rattle.ifl_line.proofs.Listing.{few_at, files_of-append}
use Rattle.ifl_line.proofs.plan.counts_of.Goals as goal

pub overflow_cast-len : goal.overflow_cast-len
overflow_cast-len c = let at = c.loop-capture in let lt = c.loop-capture-test.true in let x = c.capture-item.result in let len = c.len.ensures in
    let few : length (get_or c.args.captures.now at.capture-index x).frames ≤ 1000000 = few_at c.args.captures.now at.capture-index x c.requires lt in
    let is : length x.frames ≡ length (get_or c.args.captures.now at.capture-index x).frames = ap (λ (z : Capture). length z.frames) c.capture-item.is in
    omega arith

pub loop-capture-preserved : goal.loop-capture-preserved
loop-capture-preserved c = let at = c.loop-capture in let lt = c.loop-capture-test.true in let x = c.capture-item.result in let i = at.invariant in let all = c.args.captures.now in
    let more : files_of (take (at.capture-index + 1) all) ≡ files_of (take at.capture-index all) ++ x.frames ∷ [] =
    ap files_of (take_more all at.capture-index x lt) ∙ (λ k. files_of (take at.capture-index all ++ sym c.capture-item.is k ∷ [])) ∙ files_of-append (take at.capture-index all) (x ∷ []) in
    let push = c.push_reserved.ensures in let len = push.len in let room = push.capacity in let had = i.1 in let many = i.2 in (
      push.items ∙ (λ k. i.0 k ++ c.len.ensures k ∷ []) ∙ sym (map-append length (files_of (take at.capture-index all)) (x.frames ∷ [])) ∙ ap (map length) (sym more),
      omega arith,
      omega arith,
    )
