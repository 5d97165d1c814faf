use Rattle.std.proofs.Common.{arith}
use Rattle.ifl_desc.proofs.DeviceCounts.{fetched-Fetches, completed-TakesNext, fetched-TakesNext, completed-Completes}
use Rattle.ifl_generation.proofs.tests.two_descriptors_go_round.Goals as goal

pub complete-requires-2-clause-fetched : goal.complete-requires-2-clause-fetched
complete-requires-2-clause-fetched g c =
    let one = completed-Completes c.next-3.new.end c.emitted.result c.complete.new.end c.complete.ensures.list in
    let third = completed-TakesNext c.next-2.new.end c.next-3.result c.next-3.new.end c.next-3.ensures.list in
    let second = completed-TakesNext c.next.new.end c.next-2.result c.next-2.new.end c.next-2.ensures.list in
    let first = completed-TakesNext c.fetch-2.new.end c.next.result c.next.new.end c.next.ensures.list in
    let fetched = fetched-TakesNext c.fetch-2.new.end c.in-Some-Some-2.first c.next.new.end c.in-Some-Some-2.ensures.list in
    let again = fetched-TakesNext c.next.new.end c.in-Some-Some-2.second c.next-2.new.end c.in-Some-Some-2.ensures'.list in
    omega (
      arith,
      fetched,
      again,
      one.0,
      one.1,
      third.0,
      third.1,
      second.0,
      first.0,
      first.1,
      c.fetch-2.ensures.lawful.after,
      fetched-Fetches c.fetch.new.end c.fetch-2.result c.fetch-2.new.end c.fetch-2.ensures.list,
    )
