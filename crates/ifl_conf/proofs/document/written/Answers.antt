use Rattle.std.proofs.Common.{◌≡◌, None, Some}
use Rattle.toml.proofs.Views.{table_get}
use Rattle.ifl_conf.specs.Keys.{row}
use Rattle.ifl_conf.proofs.document.written.Goals as goal

pub returns-in-None : goal.returns-in-None
returns-in-None c =
    let place : None ≡ (row c.args.key).place = c.in-None.ensures in
    rw (← place, ← c.name.ensures) (table_get c.get.result c.name.result.now c.args.table.now.entries c.get.ensures.value)

pub returns-in-Some-get : goal.returns-in-Some-get
returns-in-Some-get c =
    let place : Some c.in-Some.place.now ≡ (row c.args.key).place = c.in-Some.ensures in
    let found = table_get c.get-in-Some.result c.in-Some.place.now c.args.table.now.entries c.get-in-Some.ensures.value in
    rw (← place, ← rw c.in-Some-get.is at found, ← c.name-in-Some-get.ensures) c.get-in-Some-get.ensures

pub returns-in-None-get : goal.returns-in-None-get
returns-in-None-get c =
    let place : Some c.in-Some.place.now ≡ (row c.args.key).place = c.in-Some.ensures in
    let found = table_get c.get-in-Some.result c.in-Some.place.now c.args.table.now.entries c.get-in-Some.ensures.value in
    rw (← place, ← rw c.in-None-get.is at found)
