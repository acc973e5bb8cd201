use Rattle.std.proofs.Common.{rules, ◌≡◌, false, Ok, [], refl, sym, ◌∙◌, option_map, unwrap_or}
use Rattle.tuple_text.specs.Refs.{set_value}
use Rattle.namespaces.specs.Lookup.{number_of, place_of, namespace_names}
use Rattle.strata.specs.Edges.{first_broken, last_relation_edges, last_edges, read_in_userset, read_through}
use Rattle.strata.proofs.Walks.{edges_joined}
use Rattle.strata.proofs.check.check_user_last.Goals as goal
use Rattle.strata.proofs.check.check_user_last.Goals.{in-Some+in_ok-check_last_rule, in_default}

pub returns-then-not-through : goal.returns-then-not-through
returns-then-not-through c =
    let rs = c.args.rules.now in
    let s = set_value c.args.set in
    let g = set_value c.args.user in
    let by_this = unwrap_or (option_map (last_relation_edges rs (read_in_userset g)) (number_of s.namespace s.relation rs)) [] in
    let through = unwrap_or (option_map (last_edges rs (read_through s.relation g)) (place_of s.namespace (namespace_names rs))) [] in
    let first : first_broken rs by_this ≡ Ok (tt {0}) = elim c.match-number.branch [
      | in-Some+in_ok-check_last_rule w ↦ search rules
      | in_default w ↦ search rules
    ] in
    let none : c.args.through ≡ false = search rules in
    let second : first_broken rs through ≡ Ok (tt {0}) = c.requires none s.relation g in
    record { edges = sym (edges_joined rs by_this through ∙ rw (first, second) refl) }
