use Rattle.std.proofs.Common.{◌≡◌, ◌∷◌, ◌++◌, [], false, is_some, string_bytes, rules}
use Rattle.names.specs.Names.{value_of}
use Rattle.namespaces.proofs.Declarers.{same_put, kept_put, there_put}
use Rattle.namespaces.proofs.declaring.make_place.Goals.{After-put}
use Rattle.namespaces.proofs.declaring.make_place.Goals as goal

pub returns-clause-same : goal.returns-clause-same
returns-clause-same c =
    let new : is_some (value_of (string_bytes c.in_ok-name.name) c.args.table.now.entries) ≡ false = search rules in
    let put : c.put.new.self.entries ≡ c.args.table.now.entries ++ (c.in_ok-name.name, c.none.result) ∷ [] = search rules in
    rw put (same_put c.none.result c.args.table.now.entries c.in_ok-name.name c.none.ensures new)

pub returns-clause-kept : goal.returns-clause-kept
returns-clause-kept c =
    let new : is_some (value_of (string_bytes c.in_ok-name.name) c.args.table.now.entries) ≡ false = search rules in
    let put : c.put.new.self.entries ≡ c.args.table.now.entries ++ (c.in_ok-name.name, c.none.result) ∷ [] = search rules in
    λ q there. rw put (kept_put q c.none.result c.args.table.now.entries c.in_ok-name.name new there)

pub returns-clause-there : goal.returns-clause-there
returns-clause-there c =
    let new : is_some (value_of (string_bytes c.in_ok-name.name) c.args.table.now.entries) ≡ false = search rules in
    let put : c.put.new.self.entries ≡ c.args.table.now.entries ++ (c.in_ok-name.name, c.none.result) ∷ [] = search rules in
    let text : string_bytes c.in_ok-name.name ≡ c.args.name.now = search rules in
    rw (put, ← text) (there_put c.none.result c.args.table.now.entries c.in_ok-name.name new)
