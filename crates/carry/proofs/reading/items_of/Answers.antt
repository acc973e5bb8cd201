use Rattle.std.proofs.Common.{rules, ◌≡◌, ◌++◌, ◌∷◌, []}
use Rattle.std.proofs.lemmas.List.{map_push}
use Rattle.carry.specs.Fields.{repeated}
use Rattle.carry.specs.Reading.{item_at}
use Rattle.carry.specs.Values.{item_value, item_values}
use Rattle.carry.proofs.Loop.{ends, goes_on}
use Rattle.carry.proofs.reading.items_of.Goals as goal

pub returns-in-Err : goal.returns-in-Err
returns-in-Err c = ends item_at c.in-Err.fault (item_values c.loop.items.items) c.args.count c.loop.counter c.loop.rest.now (repeated item_at c.args.count c.args.text.now) c.loop-test.true c.in-Err.ensures c.loop.invariant.so_far

pub loop-preserved : goal.loop-preserved
loop-preserved c =
    let i = c.in-Ok.item in
    let e : item_values c.push.new.self.items ≡ item_values c.loop.items.items ++ item_value i ∷ [] = rw c.in_ok-push-in-Ok.ensures.items (map_push _ c.loop.items.items i) in
    record { so_far = rw e (goes_on item_at (item_values c.loop.items.items) c.args.count c.loop.counter c.loop.rest.now (item_value i) c.in-Ok.after.now (repeated item_at c.args.count c.args.text.now) c.loop-test.true c.in-Ok.ensures c.loop.invariant.so_far); utf8 = search rules }
