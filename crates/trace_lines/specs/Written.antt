-- Lines that are written plainly: each field once, in one order, with no space and no escape.
use Rattle.std.specs.Prelude.{◌≡◌, ℕ, ◌<◌, ◌^◌, Bool, true, false, not, List, [], ◌∷◌, ◌++◌, map, Option, None, Some, option_map, Ok, bytes_eq, codes, ⊤}
use Rattle.std.specs.Fmt.{decimal}
use Rattle.std.specs.List.{AllByRecursion, list_all}
use Rattle.json.specs.Print.{escape, quoted}
use Rattle.serde_json.specs.Data.{Data, unsigned, boolean, number, string, array, object, Members, no_members, member, put}
use Rattle.serde_json.specs.Find.{get}
use Rattle.serde_json.specs.Read.{read}
use Rattle.serde_json.specs.View.{items_of}
use Rattle.serde_json.specs.Written.{compact_text, items_text, members_text}
use Rattle.tuple_text.specs.Grammar.{IsTuple, tuple_text}
use Rattle.tuple_text.specs.Tuples.{TupleValue}
use Rattle.version_chains.specs.Commits.{Commit}
use Rattle.trace_lines.specs.Said.{entry_said}
use Rattle.trace_lines.specs.Traces.{commit_of, entry_of}
use Rattle.trace_lines.specs.declared.checks.Said.{Said}
use Rattle.trace_lines.specs.declared.entry.EntryKind.{EntryKind}
use Rattle.trace_lines.specs.declared.entry.EntryKind.TheVariants.{Check, Content}

abbrev pub kind_name : EntryKind → List ℕ
kind_name Check = codes "check"
kind_name Content = codes "content"

-- a member that need not be there
abbrev pub with_text : List ℕ → Option (List ℕ) → Members → Members
with_text key None ms = ms
with_text key (Some t) ms = member key (string t) ms

-- members with a text each, of which a line says nothing to a trace
abbrev pub more_members : List (List ℕ × List ℕ) → Members
more_members [] = no_members
more_members (m ∷ more) = member m.0 (string m.1) (more_members more)

-- the same put behind others
abbrev pub put_more : List (List ℕ × List ℕ) → Members → Members
put_more [] ms = ms
put_more (m ∷ more) ms = put_more more (put m.0 (string m.1) ms)

-- what the line writes
abbrev pub check_spelled : EntryKind → List ℕ → ℕ → Bool → Option (List ℕ) → Option (List ℕ)
    → List (List ℕ × List ℕ) → Data
check_spelled kind goal snapshot reply zookie version more =
    object (member (codes "kind") (string (kind_name kind))
    (member (codes "goal") (string goal)
    (member (codes "snapshot") (number (unsigned snapshot))
    (member (codes "reply") (boolean reply)
    (with_text (codes "zookie") zookie
    (with_text (codes "version") version (more_members more)))))))

-- the members of its value, in the order of their keys, without those more
abbrev pub check_members : EntryKind → List ℕ → ℕ → Bool → Option (List ℕ) → Option (List ℕ) → Members
check_members kind goal snapshot reply zookie version =
    member (codes "goal") (string goal)
    (member (codes "kind") (string (kind_name kind))
    (member (codes "reply") (boolean reply)
    (member (codes "snapshot") (number (unsigned snapshot))
    (with_text (codes "version") version
    (with_text (codes "zookie") zookie no_members)))))

-- The text is JSON of this kind, and what its value records is what the fields say.
abbrev pub IsCheck : List ℕ → EntryKind → Said → Type 0
IsCheck text kind s =
    (d : Data) × (read text ≡ Some d) × (get (codes "kind") d ≡ Some (string (kind_name kind)))
    × ((line before : ℕ) → entry_of kind line before d ≡ entry_said kind line before (Some s))

-- ---- commits

abbrev pub tuples_data : List TupleValue → Data
tuples_data ts = array (items_of (map (λ t. string (tuple_text t)) ts))

-- the tuples of a list that need not be there
abbrev pub listed : Option (List TupleValue) → List TupleValue
listed None = []
listed (Some ts) = ts

-- a list that need not be there
abbrev pub with_tuples : List ℕ → Option (List TupleValue) → Members → Members
with_tuples key None ms = ms
with_tuples key (Some ts) ms = member key (tuples_data ts) ms

-- what the line writes
abbrev pub commit_spelled : ℕ → Option (List TupleValue) → Option (List TupleValue) → List (List ℕ × List ℕ) → Data
commit_spelled at adds removes more =
    object (member (codes "kind") (string (codes "commit"))
    (member (codes "at") (number (unsigned at))
    (with_tuples (codes "add") adds
    (with_tuples (codes "remove") removes (more_members more)))))

-- the members of its value, without those more
abbrev pub commit_members : ℕ → Option (List TupleValue) → Option (List TupleValue) → Members
commit_members at adds removes =
    with_tuples (codes "add") adds
    (member (codes "at") (number (unsigned at))
    (member (codes "kind") (string (codes "commit"))
    (with_tuples (codes "remove") removes no_members)))

-- The text is JSON of this kind, and its value is this commit.
abbrev pub IsCommit : List ℕ → Commit → Type 0
IsCommit text c =
    (d : Data) × (read text ≡ Some d) × (get (codes "kind") d ≡ Some (string (codes "commit"))) × (commit_of d ≡ Ok c)

abbrev pub AreTuples : List TupleValue → Type 0
AreTuples ts = AllByRecursion IsTuple ts

-- ---- what a line may say more

-- the keys that a line of a trace is asked for
abbrev pub line_names : List (List ℕ)
line_names =
    codes "kind" ∷ codes "goal" ∷ codes "snapshot" ∷ codes "reply" ∷ codes "zookie" ∷ codes "version"
    ∷ codes "at" ∷ codes "add" ∷ codes "remove" ∷ []

abbrev pub is_free : List ℕ → Bool
is_free key = list_all (λ name. not (bytes_eq name key)) line_names

abbrev pub AreFree : List (List ℕ × List ℕ) → Type 0
AreFree more = AllByRecursion (λ m. is_free m.0 ≡ true) more

-- ---- for private clauses

-- such members and the closing brace
abbrev pub IsMore : List ℕ → Type 0
IsMore text = (more : List (List ℕ × List ℕ)) × (text ≡ members_text true (more_members more)) × AreFree more

-- one such member, and what stands behind it
abbrev pub HasMore : List ℕ → List ℕ → Type 0
HasMore text rest = (key t : List ℕ) × (text ≡ 44 ∷ (quoted key ++ 58 ∷ (quoted t ++ rest))) × (is_free key ≡ true)

-- a text behind its front and before its quote, where it is there
abbrev pub optional_text : List ℕ → Option (List ℕ) → List ℕ → List ℕ
optional_text front None rest = rest
optional_text front (Some t) rest = front ++ (t ++ 34 ∷ rest)

-- the fields behind the kind, and what stands behind them
abbrev pub fields_text : List ℕ → ℕ → Bool → Option (List ℕ) → Option (List ℕ) → List ℕ → List ℕ
fields_text goal snapshot reply zookie version rest =
    codes ",\"goal\":\"" ++ (goal ++ 34 ∷ (codes ",\"snapshot\":" ++ (decimal snapshot ++ (codes ",\"reply\":"
    ++ (compact_text (boolean reply)
    ++ optional_text (codes ",\"zookie\":\"") zookie (optional_text (codes ",\"version\":\"") version rest))))))

abbrev pub said_text : Said → List ℕ → List ℕ
said_text s rest = fields_text s.goal.now s.snapshot s.reply (option_map (λ t. t.now) s.zookie)
    (option_map (λ t. t.now) s.version) rest

-- no byte of the text is escaped
abbrev pub IsPlain : Option (List ℕ) → Type 0
IsPlain None = ⊤
IsPlain (Some t) = escape t ≡ t

abbrev pub ArePlain : Said → Type 0
ArePlain s = (escape s.goal.now ≡ s.goal.now) × IsPlain (option_map (λ t. t.now) s.zookie)
    × IsPlain (option_map (λ t. t.now) s.version)
    × (s.snapshot < 2 ^ 64)

-- a list of tuples behind its opening bracket, and what stands behind it
abbrev pub list_text : List TupleValue → List ℕ → List ℕ
list_text ts rest = items_text false (items_of (map (λ t. string (tuple_text t)) ts)) ++ rest

-- the same behind its front, where it is there
abbrev pub optional_list : List ℕ → Option (List TupleValue) → List ℕ → List ℕ
optional_list front None rest = rest
optional_list front (Some ts) rest = front ++ list_text ts rest
