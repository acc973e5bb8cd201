-- Parts, as they are numbered, and nodes that say what expressions say.
use Rattle.std.proofs.Common.{rules, ◌≡◌, ℕ, zero, suc, ◌+◌, ◌<◌, Bool, true, false, not, if◌then◌else◌, Result, Ok, Err, inl, inr, List, [], ◌∷◌, ◌++◌, Some, String, Global, length, drop, map, get_or, add-one, option_map, refl, sym, ◌∙◌, ap, subst, append_assoc}
use Rattle.std.proofs.Math.Seq.{drop-cons, get_or-append_seam}
use Rattle.std.proofs.lemmas.List.{append-nil, map-append, length-map, get_or_append_left}
use Rattle.std.proofs.lemmas.Option.{unwrap_or-slice_get, slice_get-map, slice_get_within, get_or_from_slice_get}
use Rattle.std.specs.Global.{Vec}
use Rattle.std.specs.Prelude.{is_some, slice_get, slice_set, string_bytes, IfOk, OnOk}
use Rattle.std.specs.Str.{bytes_eq}
use Rattle.std.proofs.lemmas.Map.Made.{is_some-lookup}
use Rattle.names.specs.Names.{NamesValue, value_of}
use Rattle.rewrites.specs.Alike.{IsAlike, gives, bars}
use Rattle.rewrites.specs.Expression.{Expression, tuple_to, union, inter, minus, no_child, children}
use Rattle.rewrites.specs.Joints.{joined, IsPut, JoinAlike}
use Rattle.rewrites.specs.View.{expression_of}
use Rattle.rewrites.specs.Parts.{each_shown, through_expression, throughs_shown, part_expression, parts_shown, part_at, node_expression, nodes_shown, IsGrown, Says, HasPart, AllSay}
use Rattle.rewrites.specs.declared.parts.Part.{Part}
use Rattle.rewrites.specs.declared.rewrite.Rewrite.{Rewrite}
use Rattle.rewrites.specs.declared.parts.Node
use Rattle.rewrites.specs.declared.parts.Node.{Node, the_lemmas}
use Rattle.rewrites.specs.declared.parts.Through.{Through}
use Rattle.rewrites.specs.declared.plain.Joint.{Joint}
use Rattle.rewrites.proofs.Names.{by_bool}
use Rattle.rewrites.proofs.NamedLemmas.{there_shown}
use Rattle.rewrites.proofs.AlikeLemmas.{or_none, and_all, alike_itself, alike_then, alike_back, alike_front, alike_more, alike_last, alike_swapped, nested_alike, minus_alike, joined_on, joined_on_alike}

-- ---- growth

pub grown_not : (parts : List Expression) → IsGrown parts parts
grown_not parts = ([], sym (append-nil parts))

pub grown_then : (a b c : List Expression) → IsGrown a b → IsGrown b c → IsGrown a c
grown_then a b c (x, p) (y, q) = (x ++ y, rw (q, p, append_assoc) refl)

-- what holds whatever follows, holds of a list that goes on
pub later : (P : List Expression → Type 0) (old new : List Expression) → ((more : List Expression) → P (old ++ more)) → IsGrown old new
    → (more : List Expression) → P (new ++ more)
later P old new h (added, is) more = rw (is, append_assoc) (h (added ++ more))

-- ---- a tupleset, and the relations that are read through it

-- one that is not read yet goes behind the others
pub one_more_shown : (tupleset : String Global) (es : List (String Global × Unit {0})) (name : String Global) (q : List ℕ) → string_bytes name ≡ q
    → map (λ e. tuple_to (string_bytes tupleset) (string_bytes e.0)) (es ++ (name, tt {0}) ∷ [])
    ≡ map (λ e. tuple_to (string_bytes tupleset) (string_bytes e.0)) es ++ tuple_to (string_bytes tupleset) q ∷ []
one_more_shown tupleset es name q text =
    rw (← text) (map-append (λ e. tuple_to (string_bytes tupleset) (string_bytes e.0)) es ((name, tt {0}) ∷ []))

module _ (tupleset : String Global) (old new : NamesValue (Unit {0})) (name : String Global) (q : List ℕ) (text : string_bytes name ≡ q) where
  abbrev read : NamesValue (Unit {0}) → List Expression
  read names = map (λ e. tuple_to (string_bytes tupleset) (string_bytes e.0)) names.entries

  -- whether one more is read, as the table of names says, or it was read before
  pub more_shown : {E : Type 0} (o : Result Bool E) → IfOk o (λ r. r ≡ true → new.entries ≡ old.entries ++ (name, tt {0}) ∷ []) → IfOk o (λ r. r ≡ false → new ≡ old)
      → IfOk o (λ r. read new ≡ (if r then read old ++ tuple_to (string_bytes tupleset) q ∷ [] else read old))
  more_shown (Ok true) put there = rw (put refl) (one_more_shown tupleset old.entries name q text)
  more_shown (Ok false) put there = ap read (there refl)
  more_shown (Err e) put there = tt

  pub put_shown : {E : Type 0} (o : Result Bool E) → IfOk o (λ r. r ≡ not (is_some (value_of (string_bytes name) old.entries)))
      → IfOk o (λ r. r ≡ true → new.entries ≡ old.entries ++ (name, tt {0}) ∷ []) → IfOk o (λ r. r ≡ false → new ≡ old)
      → OnOk o (IsPut (read old) (read new) (tuple_to (string_bytes tupleset) q))
  put_shown (Ok true) known put there = inl (rw (put refl) (one_more_shown tupleset old.entries name q text))
  put_shown (Ok false) known put there = inr (
    ap read (there refl),
    there_shown (tuple_to (string_bytes tupleset)) q old.entries (rw text at (sym (is_some-lookup (λ k. bytes_eq (string_bytes name) (string_bytes k)) old.entries) ∙ by_bool (is_some (value_of (string_bytes name) old.entries)) (λ t. t) (λ f. let c : false ≡ not false = rw f at known in cc))),
  )
  put_shown (Err e) known put there = tt

-- ---- one part

part_at-append : (old more : List Expression) (n : ℕ) (e : Expression) → slice_get old n ≡ Some e → part_at (old ++ more) n ≡ e
part_at-append old more n e h =
    unwrap_or-slice_get (old ++ more) n (union no_child)
    ∙ get_or_append_left old more (union no_child) n (slice_get_within old n e h)
    ∙ get_or_from_slice_get old n e (union no_child) h

pub part_stands : (ps : List Part) (n : ℕ) (p : Part) (e : Expression) → slice_get ps n ≡ Some p → part_expression p ≡ e
    → HasPart (parts_shown ps) (parts_shown ps) n e
part_stands ps n p e at is = record {
  grown = grown_not (parts_shown ps);
  stands = λ more. part_at-append (parts_shown ps) more n e (slice_get-map part_expression ps n ∙ ap (option_map part_expression) at ∙ ap Some is);
}

pub part_pushed : (ps : List Part) (p : Part) → HasPart (parts_shown ps) (parts_shown (ps ++ p ∷ [])) (length ps) (part_expression p)
part_pushed ps p = record {
  grown = (part_expression p ∷ [], map-append part_expression ps (p ∷ []));
  stands = λ more.
      unwrap_or-slice_get (parts_shown (ps ++ p ∷ []) ++ more) (length ps) (union no_child)
      ∙ rw (map-append part_expression ps (p ∷ []), append_assoc, ← length-map ps part_expression)
      (get_or-append_seam (parts_shown ps) (part_expression p) more (union no_child));
}

-- ---- the children of a union: nodes, and those that go through tuplesets behind them

-- one more goes through a tupleset
pub union_put : (nodes old new rest all : List Expression) (e : Expression) → JoinAlike Joint.Union new (old ++ e ∷ [])
    → JoinAlike Joint.Union ((nodes ++ old) ++ e ∷ rest) all → JoinAlike Joint.Union ((nodes ++ new) ++ rest) all
union_put nodes old new rest all e put left =
    joined_on Joint.Union (nodes ++ old) (nodes ++ new) rest all e
    (rw append_assoc (alike_front Joint.Union nodes new (old ++ e ∷ []) put)) left

-- one more is a node
pub union_node : (nodes through rest all : List Expression) (e f : Expression) → IsAlike f e
    → JoinAlike Joint.Union ((nodes ++ through) ++ e ∷ rest) all → JoinAlike Joint.Union (((nodes ++ f ∷ []) ++ through) ++ rest) all
union_node nodes through rest all e f alike left =
    joined_on_alike Joint.Union (nodes ++ through) ((nodes ++ f ∷ []) ++ through) rest all e f alike
    (alike_swapped Joint.Union nodes (f ∷ []) through) left

-- the last of those that go through tuplesets is a node
pub union_last : (nodes through all : List Expression) (e : Expression) → JoinAlike Joint.Union (nodes ++ (through ++ e ∷ [])) all
    → JoinAlike Joint.Union ((nodes ++ e ∷ []) ++ through) all
union_last nodes through all e h =
    alike_then (joined Joint.Union ((nodes ++ e ∷ []) ++ through)) (joined Joint.Union ((nodes ++ through) ++ e ∷ [])) (joined Joint.Union all)
    (alike_swapped Joint.Union nodes (e ∷ []) through) (rw append_assoc h)

-- ---- tuplesets, and what goes through them

one_through : (e : Expression) → IsAlike (union (children (e ∷ []))) e
one_through e = record { gives_alike = λ l. or_none (gives l e); bars_alike = λ l. and_all (bars l e) }

-- a tupleset more, through which one relation is read
pub through_more : (ts : List Through) (t : Through) (e : Expression) → each_shown t ≡ e ∷ []
    → JoinAlike Joint.Union (throughs_shown (ts ++ t ∷ [])) (throughs_shown ts ++ e ∷ [])
through_more ts t e is =
    let one : IsAlike (through_expression t) e = rw is (one_through e) in
    rw (map-append through_expression ts (t ∷ [])) (alike_last Joint.Union (throughs_shown ts) (through_expression t) e one)

-- one relation more that is read through the tupleset at a place
pub through_set : (ts : List Through) (i : ℕ) (t o : Through) (e : Expression) → slice_get ts i ≡ Some o → each_shown t ≡ each_shown o ++ e ∷ []
    → JoinAlike Joint.Union (throughs_shown (slice_set ts i t)) (throughs_shown ts ++ e ∷ [])
through_set [] i t o e at is = absurd cc
through_set (p ∷ ts) zero t o e at is =
    let same : p ≡ o = cc in
    let rest = throughs_shown ts in
    let each : each_shown t ≡ each_shown p ++ e ∷ [] = rw same is in
    let new : JoinAlike Joint.Union (through_expression t ∷ []) (each_shown p ++ e ∷ []) =
    subst (λ es. JoinAlike Joint.Union (through_expression t ∷ []) es) each
    (alike_back (joined Joint.Union (each_shown t)) (joined Joint.Union (through_expression t ∷ [])) (nested_alike Joint.Union [] (each_shown t))) in
    let old : JoinAlike Joint.Union (each_shown p) (through_expression p ∷ []) = nested_alike Joint.Union [] (each_shown p) in
    alike_then (joined Joint.Union (through_expression t ∷ rest)) (joined Joint.Union ((each_shown p ++ e ∷ []) ++ rest))
    (joined Joint.Union ((through_expression p ∷ rest) ++ e ∷ []))
    (alike_more Joint.Union (through_expression t ∷ []) (each_shown p ++ e ∷ []) rest new)
    (alike_then (joined Joint.Union ((each_shown p ++ e ∷ []) ++ rest)) (joined Joint.Union ((each_shown p ++ rest) ++ e ∷ []))
    (joined Joint.Union ((through_expression p ∷ rest) ++ e ∷ []))
    (alike_swapped Joint.Union (each_shown p) (e ∷ []) rest)
    (alike_more Joint.Union (each_shown p ++ rest) (through_expression p ∷ rest) (e ∷ [])
    (alike_more Joint.Union (each_shown p) (through_expression p ∷ []) rest old)))
through_set (p ∷ ts) (suc i) t o e at is =
    alike_front Joint.Union (through_expression p ∷ []) (throughs_shown (slice_set ts i t)) (throughs_shown ts ++ e ∷ [])
    (through_set ts i t o e at is)

-- what is read stays, where the same is put at a place
pub through_same : (ts : List Through) (i : ℕ) (t o : Through) → slice_get ts i ≡ Some o → each_shown t ≡ each_shown o
    → throughs_shown (slice_set ts i t) ≡ throughs_shown ts
through_same [] i t o at is = absurd cc
through_same (p ∷ ts) zero t o at is =
    let same : p ≡ o = cc in
    ap (λ es. union (children es) ∷ throughs_shown ts) (rw same is)
through_same (p ∷ ts) (suc i) t o at is = ap (λ es. through_expression p ∷ es) (through_same ts i t o at is)

-- ---- a node more

node_of_part : (parts : List Expression) (n : ℕ) → node_expression parts (Node.Part n) ≡ part_at parts n
node_of_part parts n = search (rules, the_lemmas)

pub union_shown : (parts : List Expression) (ns : Vec Node) → node_expression parts (Node.Union ns) ≡ union (children (nodes_shown parts ns.items))
union_shown parts ns = search (rules, the_lemmas)

pub inter_shown : (parts : List Expression) (ns : Vec Node) → node_expression parts (Node.Inter ns) ≡ inter (children (nodes_shown parts ns.items))
inter_shown parts ns = search (rules, the_lemmas)

nodes_pushed : (parts : List Expression) (ns : List Node) (n : Node) → nodes_shown parts (ns ++ n ∷ []) ≡ nodes_shown parts ns ++ node_expression parts n ∷ []
nodes_pushed parts ns n = map-append (node_expression parts) ns (n ∷ [])

-- the last of the parts that go through tuplesets is a node
pub last_node : (old new : List Expression) (ns ms : List Node) (ts us : List Through) (t : Through) (n : ℕ) → HasPart old new n (through_expression t)
    → ((more : List Expression) → JoinAlike Joint.Union (nodes_shown (old ++ more) ns ++ throughs_shown (ts ++ t ∷ [])) (nodes_shown (old ++ more) ms ++ throughs_shown us))
    → (more : List Expression)
    → JoinAlike Joint.Union (nodes_shown (new ++ more) (ns ++ Node.Part n ∷ []) ++ throughs_shown ts) (nodes_shown (new ++ more) ms ++ throughs_shown us)
last_node old new ns ms ts us t n part h more =
    let parts = new ++ more in
    let here = later (λ p. JoinAlike Joint.Union (nodes_shown p ns ++ throughs_shown (ts ++ t ∷ [])) (nodes_shown p ms ++ throughs_shown us)) old new h part.grown more in
    rw (nodes_pushed parts ns (Node.Part n), node_of_part parts n, part.stands more)
    (union_last (nodes_shown parts ns) (throughs_shown ts) (nodes_shown parts ms ++ throughs_shown us) (through_expression t)
    (rw (map-append through_expression ts (t ∷ [])) at here))

-- the rules from a place on: that one, and those behind it
pub left_shown : (rs : List Rewrite) (i : ℕ) (r : Rewrite) → i < length rs → r ≡ get_or rs i r
    → map expression_of (drop i rs) ≡ expression_of r ∷ map expression_of (drop (i + 1) rs)
left_shown rs i r within is = rw (drop-cons rs i r within, add-one, ← is) refl

module _ (rs : List Rewrite) (i : ℕ) (r : Rewrite) (within : i < length rs) (is : r ≡ get_or rs i r)
    (old new : List Expression) (ns : List Node) (n : Node) (says : Says old new n (expression_of r)) (all : List Expression) where
  -- the next child of a union is a node
  pub union_step : (ts : List Through)
      → ((more : List Expression) → JoinAlike Joint.Union ((nodes_shown (old ++ more) ns ++ throughs_shown ts) ++ map expression_of (drop i rs)) all)
      → (more : List Expression) → JoinAlike Joint.Union ((nodes_shown (new ++ more) (ns ++ n ∷ []) ++ throughs_shown ts) ++ map expression_of (drop (i + 1) rs)) all
  union_step ts h more =
      let parts = new ++ more in
      let here = later (λ p. JoinAlike Joint.Union ((nodes_shown p ns ++ throughs_shown ts) ++ map expression_of (drop i rs)) all) old new h says.grown more in
      rw (nodes_pushed parts ns n)
      (union_node (nodes_shown parts ns) (throughs_shown ts) (map expression_of (drop (i + 1) rs)) all (expression_of r) (node_expression parts n)
      (says.alike more) (rw (left_shown rs i r within is) at here))

  -- the next child of an intersection is a node
  pub inter_step : ((more : List Expression) → JoinAlike Joint.Inter (nodes_shown (old ++ more) ns ++ map expression_of (drop i rs)) all)
      → (more : List Expression) → JoinAlike Joint.Inter (nodes_shown (new ++ more) (ns ++ n ∷ []) ++ map expression_of (drop (i + 1) rs)) all
  inter_step h more =
      let parts = new ++ more in
      let nodes = nodes_shown parts ns in
      let here = later (λ p. JoinAlike Joint.Inter (nodes_shown p ns ++ map expression_of (drop i rs)) all) old new h says.grown more in
      rw (nodes_pushed parts ns n)
      (joined_on_alike Joint.Inter nodes (nodes ++ node_expression parts n ∷ []) (map expression_of (drop (i + 1) rs)) all (expression_of r)
      (node_expression parts n) (says.alike more) (alike_itself (joined Joint.Inter (nodes ++ node_expression parts n ∷ [])))
      (rw (left_shown rs i r within is) at here))

-- ---- a whole node

pub says_joined : (j : Joint) (old new : List Expression) (ns : List Node) (n : Node) (e : Expression) (es : List Expression)
    → ((parts : List Expression) → node_expression parts n ≡ joined j (nodes_shown parts ns)) → e ≡ joined j es → AllSay j old new ns es → Says old new n e
says_joined j old new ns n e es n_is e_is all = record {
  grown = all.grown;
  alike = λ more. rw (n_is (new ++ more), e_is) (all.alike more);
}

pub says_part : (old new : List Expression) (n : ℕ) (e : Expression) → HasPart old new n e → Says old new (Node.Part n) e
says_part old new n e part = record {
  grown = part.grown;
  alike = λ more. rw (node_of_part (new ++ more) n, part.stands more) (alike_itself e);
}

pub says_minus : (old now new : List Expression) (n a b : Node) (e f g : Expression)
    → ((parts : List Expression) → node_expression parts n ≡ minus (node_expression parts a) (node_expression parts b)) → e ≡ minus f g
    → Says old now a f → Says now new b g → Says old new n e
says_minus old now new n a b e f g n_is e_is first second = record {
  grown = grown_then old now new first.grown second.grown;
  alike = λ more.
      rw (n_is (new ++ more), e_is)
      (minus_alike (node_expression (new ++ more) a) f (node_expression (new ++ more) b) g
      (later (λ p. IsAlike (node_expression p a) f) now new first.alike second.grown more) (second.alike more));
}
