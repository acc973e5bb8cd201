-- Members of which a line says nothing to a trace: how they are written, and that what a line is asked for stays.
use Rattle.std.proofs.Common.{◌≡◌, ℕ, ◌<◌, ◌≤◌, Bool, true, false, not, List, [], ◌∷◌, ◌++◌, length, get_or, Some, bytes_eq, refl, ap, sym, ◌∙◌, arith, true≢false}
use Rattle.std.specs.List.{AllByRecursion}
use Rattle.std.proofs.lemmas.List.{length-append}
use Rattle.std.proofs.lemmas.List.Sums.{AllPass-from_list_all}
use Rattle.std.proofs.lemmas.Slice.Eq.{bytes_eq-Decides}
use Rattle.json.specs.Print.{escape, quoted}
use Rattle.json.specs.Tree.{members_depth, MembersHaveNumbers}
use Rattle.serde_json.specs.Data.{string, object, Members, put}
use Rattle.serde_json.specs.Find.{get, get_member}
use Rattle.serde_json.specs.Read.{of_members}
use Rattle.serde_json.specs.Written.{members_outline}
use Rattle.serde_json.proofs.Views.{get_member-put_other}
use Rattle.compact_json.proofs.Compact.{quoted_then}
use Rattle.trace_lines.specs.Written.{AreFree, HasMore, IsMore, line_names, more_members, put_more}

-- ---- how they are written

pub member_text : (key t rest : List ℕ) → escape key ≡ key → escape t ≡ t
    → 44 ∷ 34 ∷ (key ++ 34 ∷ 58 ∷ 34 ∷ (t ++ 34 ∷ rest)) ≡ 44 ∷ (quoted key ++ 58 ∷ (quoted t ++ rest))
member_text key t rest plain_key plain =
    ap (λ l. 44 ∷ l) (quoted_then key (58 ∷ 34 ∷ (t ++ 34 ∷ rest)) plain_key ∙ ap (λ l. quoted key ++ 58 ∷ l) (quoted_then t rest plain))

pub none_more : IsMore (125 ∷ [])
none_more = ([], refl, tt)

pub one_more : (text rest : List ℕ) → HasMore text rest → IsMore rest → IsMore text
one_more text rest one more =
    ((one.0, one.1) ∷ more.0, one.2 ∙ ap (λ r. 44 ∷ (quoted one.0 ++ 58 ∷ (quoted one.1 ++ r))) more.1, (one.3, more.2))

pub takes_some : (text rest : List ℕ) → HasMore text rest → length rest < length text
takes_some text rest one =
    let all = ap length one.2 in
    let key = length-append (quoted one.0) (58 ∷ (quoted one.1 ++ rest)) in
    let value = length-append (quoted one.1) rest in
    omega (arith, all, key, value)

-- ---- they are JSON

pub more_numbers : (more : List (List ℕ × List ℕ)) → MembersHaveNumbers (members_outline (more_members more))
more_numbers [] = tt
more_numbers (m ∷ more) = (tt, more_numbers more)

pub more_are_flat : (more : List (List ℕ × List ℕ)) → members_depth (members_outline (more_members more)) ≤ 0
more_are_flat [] = omega arith
more_are_flat (m ∷ more) = omega (arith, more_are_flat more)

pub more_make : (more : List (List ℕ × List ℕ)) (found : Members) → of_members (members_outline (more_members more)) found ≡ Some (put_more more found)
more_make [] found = refl
more_make (m ∷ more) found = more_make more (put m.0 (string m.1) found)

-- ---- what is asked for stays

differ : (a b : List ℕ) (e : Bool) → bytes_eq a b ≡ e → not e ≡ true → a ≡ b → ⊥
differ a b true is other same = true≢false (sym other)
differ a b false is other same = true≢false (sym ((bytes_eq-Decides a b).1 same) ∙ is)

apart : (i : ℕ) → i < length line_names → (more : List (List ℕ × List ℕ)) → AreFree more → AllByRecursion (λ m. get_or line_names i [] ≡ m.0 → ⊥) more
apart i lt [] free = tt
apart i lt (m ∷ more) free =
    (differ (get_or line_names i []) m.0 _ refl (AllPass-from_list_all (λ name. not (bytes_eq name m.0)) line_names free.0 i [] lt), apart i lt more free.1)

stays : (name : List ℕ) (more : List (List ℕ × List ℕ)) (ms : Members) → AllByRecursion (λ m. name ≡ m.0 → ⊥) more → get_member name (put_more more ms) ≡ get_member name ms
stays name [] ms all = refl
stays name (m ∷ more) ms all = stays name more (put m.0 (string m.1) ms) all.1 ∙ get_member-put_other name m.0 (string m.1) ms all.0

-- the name at a place among those that a line is asked for
pub asked : (i : ℕ) → i < length line_names → (more : List (List ℕ × List ℕ)) (ms : Members) → AreFree more
    → get (get_or line_names i []) (object (put_more more ms)) ≡ get_member (get_or line_names i []) ms
asked i lt more ms free = stays (get_or line_names i []) more ms (apart i lt more free)
