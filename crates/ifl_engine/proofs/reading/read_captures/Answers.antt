use Rattle.std.proofs.Common.{◌≡◌, ℕ, ◌+◌, ◌<◌, ◌≤◌, ◌++◌, ◌∷◌, [], List, length, map, take, get_or, Ok, refl, sym, ap, subst, ◌∙◌, arith}
use Rattle.std.specs.String.{string_bytes}
use Rattle.std.proofs.Math.ListN.{get_or-map}
use Rattle.std.proofs.lemmas.List.{length-map, map-append}
use Rattle.std.proofs.lemmas.List.Elements.{All-nil, All-push}
use Rattle.std.proofs.lemmas.Result.{err_from_is_err_and}
use Rattle.std.specs.Global.{Vec}
use Rattle.ifl_engine.specs.Account.{ForAccount}
use Rattle.ifl_engine.specs.Loading.{each_from, capture_file}
use Rattle.ifl_engine.specs.Loaded.{bytes_of, each_bytes}
use Rattle.ifl_engine.proofs.Loading.{captures_read-more, captures_read-stopped}
use Rattle.ifl_engine.proofs.ReadLaws.{for_any}
use Rattle.ifl_engine.proofs.Risen.{risen, risen_late}
use Rattle.ifl_engine.proofs.reading.read_captures.Goals as goal

pub returns-in_default-clause-read : goal.returns-in_default-clause-read
returns-in_default-clause-read g c = for_any (g.H.Host.files c.args.host.now) _ _ (λ source. tt)

pub loop-i-init : goal.loop-i-init
loop-i-init g c = record {
  read = for_any (g.H.Host.files c.args.host.now) _ _ (λ source. ap (λ (vs : List (Vec ℕ)). Ok (map bytes_of vs)) (sym c.in-Ok.ensures.items));
  within = subst (λ (vs : List (Vec ℕ)). (k : ℕ) (d : Vec ℕ) → k < length vs → length (get_or vs k d).items ≤ 67108864) (sym c.in-Ok.ensures.items) (All-nil (λ (v : Vec ℕ). length v.items ≤ 67108864));
  many = omega (arith, c.in-Ok.ensures.len);
  room = omega (arith, c.in-Ok.ensures.capacity);
  files = refl;
  printed = refl;
  later = omega arith;
}

pub returns-in_err-bytes-clause-read : goal.returns-in_err-bytes-clause-read
returns-in_err-bytes-clause-read g c =
    let stopped = err_from_is_err_and c.from_residual.result c.from_residual.ensures.1 in
    let at = c.loop-i in
    let names = map string_bytes c.args.names.now in
    let lt : at.i < length names = omega (arith, length-map c.args.names.now string_bytes) in
    let name : c.as_str.result.now ≡ get_or names at.i c.as_str.result.now =
    c.as_str.ensures.value ∙ ap string_bytes c.index-names-i.is ∙ sym (get_or-map string_bytes c.args.names.now at.i c.index-names-i.result) ∙ ap (get_or names at.i) (sym c.as_str.ensures.value) in
    rw (stopped.1, stopped.2) (captures_read-stopped bytes_of each_bytes (g.H.Host.files c.args.host.now) _ _ _ names at.i c.as_str.result.now (each_bytes at.captures) c.in_err-bytes.field-0.0 lt name
    (λ rose. risen (g.H.Host.faults c.args.host.now) (g.H.Host.faults at.host) (g.H.Host.faults c.read_file.new.host) rose c.in_err-bytes.ensures.later)
    (λ rose. risen_late (g.H.Host.faults c.args.host.now) (g.H.Host.faults at.host) (g.H.Host.faults c.read_file.new.host) at.invariant.later rose)
    at.invariant.read (rw at.invariant.files at c.in_err-bytes.ensures.read))

pub loop-i-preserved : goal.loop-i-preserved
loop-i-preserved g c =
    let at = c.loop-i in
    let names = map string_bytes c.args.names.now in
    let lt : at.i < length names = omega (arith, length-map c.args.names.now string_bytes) in
    let name : c.as_str.result.now ≡ get_or names at.i c.as_str.result.now =
    c.as_str.ensures.value ∙ ap string_bytes c.index-names-i.is ∙ sym (get_or-map string_bytes c.args.names.now at.i c.index-names-i.result) ∙ ap (get_or names at.i) (sym c.as_str.ensures.value) in
    let all : each_bytes c.push_reserved.new.self ≡ each_bytes at.captures ++ c.in_ok-bytes.bytes.items ∷ [] = ap (map bytes_of) c.push_reserved.ensures.items ∙ map-append bytes_of at.captures.items (c.in_ok-bytes.bytes ∷ []) in
    let more : ForAccount _ _ (λ source. each_from (capture_file source) 0 (take (at.i + 1) names) ≡ Ok (each_bytes at.captures ++ c.in_ok-bytes.bytes.items ∷ [])) =
    captures_read-more (g.H.Host.files c.args.host.now) _ _ _ names at.i c.as_str.result.now (each_bytes at.captures) c.in_ok-bytes.bytes.items lt name
    (λ rose. risen (g.H.Host.faults c.args.host.now) (g.H.Host.faults at.host) (g.H.Host.faults c.read_file.new.host) rose c.in_ok-bytes.ensures.later)
    (λ rose. risen_late (g.H.Host.faults c.args.host.now) (g.H.Host.faults at.host) (g.H.Host.faults c.read_file.new.host) at.invariant.later rose)
    at.invariant.read (rw at.invariant.files at c.in_ok-bytes.ensures.read) in
    record {
      read = rw all more;
      within = subst (λ (vs : List (Vec ℕ)). (k : ℕ) (d : Vec ℕ) → k < length vs → length (get_or vs k d).items ≤ 67108864) (sym c.push_reserved.ensures.items) (All-push (λ (v : Vec ℕ). length v.items ≤ 67108864) at.captures.items c.in_ok-bytes.bytes at.invariant.within c.in_ok-bytes.ensures.within);
      many = omega (arith, c.push_reserved.ensures.len);
      room = omega (arith, c.push_reserved.ensures.capacity);
      files = c.in_ok-bytes.ensures.files ∙ at.invariant.files;
      printed = c.in_ok-bytes.ensures.printed ∙ at.invariant.printed;
      later = omega (arith, c.in_ok-bytes.ensures.later);
    }
