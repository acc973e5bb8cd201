use Rattle.std.proofs.Common.{rules, ◌≡◌, string_bytes, is_some, false, length, Some}
use Rattle.std.specs.BTreeMap.{Updates}
use Rattle.std.specs.String.{string_cmp}
use Rattle.names.specs.Names.{value_of}
use Rattle.names.proofs.NamesLemmas.{places_put, once_put}
use Rattle.names.proofs.table.Names.put.Goals as goal

pub invariant_of-self-2 : goal.invariant_of-self-2
invariant_of-self-2 g c =
    let copied : string_bytes c.in_ok-key.key ≡ string_bytes c.args.name = search rules in
    let absent : is_some (value_of (string_bytes c.args.name) c.self.inside.entries.items) ≡ false = search rules in
    let long : c.len.result ≡ length c.self.inside.entries.items = search rules in
    let updates : Updates string_cmp c.self.inside.places c.insert.new.self c.in_ok-key.key (Some (length c.self.inside.entries.items)) = rw long at c.in_ok-insert.ensures.updates in
    let es = c.self.inside.entries.items in
    rw (c.push_reserved.ensures.items, c.in_ok-reserve.ensures.items) (
      places_put c.self.inside.places c.insert.new.self es (c.args.name, c.args.value) c.in_ok-key.key copied c.self.invariant.0 absent updates,
      once_put es (c.args.name, c.args.value) c.self.invariant.1 absent,
    )
