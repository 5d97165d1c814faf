use Rattle.std.proofs.Common.{◌++◌, codes}
use Rattle.std.specs.String.{string_bytes}
use Rattle.ifl_engine.specs.Texts.{count_line}
use Rattle.ifl_engine.proofs.Appending.{append-twice}
use Rattle.ifl_engine.proofs.texts.put_ring.Goals as goal

pub returns : goal.returns
returns c =
    let r = c.args.ring in
    let now = string_bytes c.put_count-6.new.out in
    let drops = count_line (codes "ring_drops") r.drops in
    let enqueues = count_line (codes "ring_enqueues") r.enqueues ++ drops in
    let abdications = count_line (codes "ring_abdications") r.abdications ++ enqueues in
    let restarts = count_line (codes "ring_restarts") r.restarts ++ abdications in
    let stalls = count_line (codes "ring_stalls") r.stalls ++ restarts in
    append-twice (string_bytes c.args.out.now) (string_bytes c.put_count.new.out) now (count_line (codes "ring_starts") r.starts) stalls c.in_ok-put_count.ensures
    (append-twice (string_bytes c.put_count.new.out) (string_bytes c.put_count-2.new.out) now (count_line (codes "ring_stalls") r.stalls) restarts c.in_ok-put_count-2.ensures
    (append-twice (string_bytes c.put_count-2.new.out) (string_bytes c.put_count-3.new.out) now (count_line (codes "ring_restarts") r.restarts) abdications c.in_ok-put_count-3.ensures
    (append-twice (string_bytes c.put_count-3.new.out) (string_bytes c.put_count-4.new.out) now (count_line (codes "ring_abdications") r.abdications) enqueues c.in_ok-put_count-4.ensures
    (append-twice (string_bytes c.put_count-4.new.out) (string_bytes c.put_count-5.new.out) now (count_line (codes "ring_enqueues") r.enqueues) drops c.in_ok-put_count-5.ensures c.in_ok-put_count-6.ensures))))
