-- The text of a record, taken piece by piece.
use Rattle.std.proofs.Common.{◌≡◌, ℕ, ◌<◌, ◌^◌, false, true, List, [], ◌∷◌, ◌++◌, map, length, refl, sym, ap, ◌∙◌, arith, append_assoc, append-nil, length-append}
use Rattle.std.specs.Prelude.{flat_map, codes, decimal}
use Rattle.std.specs.List.{AllByRecursion}
use Rattle.std.proofs.lemmas.Grind.{flat_map-append}
use Rattle.std.proofs.lemmas.List.{length-map, map-append}
use Rattle.json.specs.Print.{escape_byte}
use Rattle.serde_json.specs.Data.{Data}
use Rattle.serde_json.specs.Read.{read}
use Rattle.serde_json.specs.View.{items_of}
use Rattle.serde_json.specs.Written.{compact_text, items_text}
use Rattle.tuple_text.specs.Grammar.{IsFact, fact_text}
use Rattle.tuple_text.specs.Tuples.{FactValue}
use Rattle.tuple_text.specs.Quoted.{IsSplit}
use Rattle.compact_json.proofs.Compact.{split_quoted}
use Rattle.evidence_check.specs.RecordData.{fact_data, step_data, record_data}
use Rattle.evidence_check.specs.RecordPieces.{with_commas, BeginsWith, BeginsWithSome, BeginsWithFact, BeginsWithFacts, BeginsWithStep, BeginsWithSteps, IsRecord}
use Rattle.evidence_check.specs.Steps.{StepValue, yes_step, no_step}
use Rattle.evidence_check.proofs.JsonBack.{read-record}

-- ---- items with a comma between

abbrev later : Data → List ℕ
later d = 44 ∷ compact_text d

one_more : (ds : List Data) (d : Data) → 0 < length ds → with_commas (ds ++ d ∷ []) ≡ with_commas ds ++ later d
unfolding with_commas
one_more [] d some = absurd (omega arith)
one_more (e ∷ ds) d some =
    ap (λ t. compact_text e ++ t)
    (flat_map-append later ds (d ∷ []) ∙ ap (λ t. flat_map later ds ++ t) (append-nil (later d)))
    ∙ sym (append_assoc (compact_text e) (flat_map later ds) (later d))

grown : (text rest next after : List ℕ) (ds : List Data) (d : Data) → 0 < length ds
    → text ≡ with_commas ds ++ rest → rest ≡ 44 ∷ next → next ≡ compact_text d ++ after
    → text ≡ with_commas (ds ++ d ∷ []) ++ after
grown text rest next after ds d some is comma here =
    is ∙ ap (λ t. with_commas ds ++ t) (comma ∙ ap (λ t. 44 ∷ t) here)
    ∙ sym (ap (λ t. t ++ after) (one_more ds d some) ∙ append_assoc (with_commas ds) (later d) after)

single : (text rest : List ℕ) (d : Data) → text ≡ compact_text d ++ rest → text ≡ with_commas (d ∷ []) ++ rest
unfolding with_commas
single text rest d is = is ∙ ap (λ t. t ++ rest) (sym (append-nil (compact_text d)))

items_later : (ds : List Data) → items_text true (items_of ds) ≡ flat_map later ds ++ 93 ∷ []
items_later [] = refl
items_later (d ∷ ds) =
    ap (λ t. later d ++ t) (items_later ds) ∙ sym (append_assoc (later d) (flat_map later ds) (93 ∷ []))

items_there : (ds : List Data) → items_text false (items_of ds) ≡ with_commas ds ++ 93 ∷ []
unfolding with_commas
items_there [] = refl
items_there (d ∷ ds) =
    ap (λ t. compact_text d ++ t) (items_later ds)
    ∙ sym (append_assoc (compact_text d) (flat_map later ds) (93 ∷ []))

-- the items of an array in an object, which both end behind them
items_closed : (ds : List Data) (rest : List ℕ)
    → (items_text false (items_of ds) ++ 125 ∷ []) ++ rest ≡ with_commas ds ++ 93 ∷ 125 ∷ rest
items_closed ds rest =
    ap (λ t. (t ++ 125 ∷ []) ++ rest) (items_there ds)
    ∙ ap (λ t. t ++ rest) (append_assoc (with_commas ds) (93 ∷ []) (125 ∷ []))
    ∙ append_assoc (with_commas ds) (93 ∷ 125 ∷ []) rest

-- ---- facts

pub fact_there : (text rest : List ℕ) (f : FactValue) → IsSplit 34 text (fact_text f) rest → IsFact f → BeginsWithFact (34 ∷ text) f rest
fact_there text rest f split fact = record { spells = split_quoted text (fact_text f) rest split; facts = fact }

-- ---- several items

pub first_item : {X : Type 0} (data_of : X → Data) (Has : X → Type 0) (text rest : List ℕ) (x : X)
    → BeginsWith data_of Has text x rest → BeginsWithSome data_of Has text (x ∷ []) rest
first_item data_of Has text rest x h =
    record { spells = single text rest (data_of x) h.spells; some = omega arith; facts = (h.facts, tt) }

all_more : {X : Type 0} (P : X → Type 0) (xs : List X) (x : X)
    → AllByRecursion P xs → P x → AllByRecursion P (xs ++ x ∷ [])
all_more P [] x h p = (p, tt)
all_more P (y ∷ ys) x h p = (h.0, all_more P ys x h.1 p)

pub next_item : {X : Type 0} (data_of : X → Data) (Has : X → Type 0) (text rest next after : List ℕ) (xs : List X)
    (x : X) → BeginsWithSome data_of Has text xs rest → rest ≡ 44 ∷ next → BeginsWith data_of Has next x after
    → BeginsWithSome data_of Has text (xs ++ x ∷ []) after
next_item data_of Has text rest next after xs x h comma here =
    let ds = map data_of xs in
    record {
      spells = grown text rest next after ds (data_of x) (simp length-map h.some) h.spells comma here.spells
          ∙ ap (λ ds. with_commas ds ++ after) (sym (map-append data_of xs (x ∷ [])));
      some = simp length-append (omega arith);
      facts = all_more Has xs x h.facts here.facts;
    }

-- ---- steps

pub yes_there : (text inner behind rest : List ℕ) (f : FactValue) → text ≡ codes "{\"yes\":" ++ inner
    → BeginsWithFact inner f behind → behind ≡ 125 ∷ rest → BeginsWithStep text (yes_step f) rest
unfolding escape_byte
yes_there text inner behind rest f is h closed =
    let fact = compact_text (fact_data f) in
    record {
      spells = is ∙ ap (λ t. codes "{\"yes\":" ++ t)
          (h.spells ∙ ap (λ t. fact ++ t) closed ∙ sym (append_assoc fact (125 ∷ []) rest));
      facts = h.facts;
    }

pub no_there : (text inner behind rest : List ℕ) (fs : List FactValue) → text ≡ codes "{\"no\":[" ++ inner
    → BeginsWithFacts inner fs behind → behind ≡ codes "]}" ++ rest → BeginsWithStep text (no_step fs) rest
unfolding escape_byte
no_there text inner behind rest fs is h closed =
    let ds = map fact_data fs in
    record {
      spells = is ∙ ap (λ t. codes "{\"no\":[" ++ t)
          (h.spells ∙ ap (λ t. with_commas ds ++ t) closed ∙ sym (items_closed ds rest));
      facts = h.facts;
    }

-- ---- the record

-- what stands before the list of steps
abbrev in_front : ℕ → List ℕ → List ℕ
in_front line listed = codes "{\"line\":" ++ (decimal line ++ (codes ",\"steps\":[" ++ listed))

record_spelled : (line : ℕ) (steps : List StepValue)
    → compact_text (record_data line steps) ≡ in_front line (with_commas (map step_data steps) ++ codes "]}")
unfolding escape_byte
record_spelled line steps =
    let ds = map step_data steps in
    ap (λ t. in_front line (t ++ 125 ∷ [])) (items_there ds)
    ∙ ap (in_front line) (append_assoc (with_commas ds) (93 ∷ []) (125 ∷ []))

pub record_there : (text numbered behind listed rest : List ℕ) (line : ℕ) (steps : List StepValue) → line < 2 ^ 64
    → text ≡ codes "{\"line\":" ++ numbered → numbered ≡ decimal line ++ behind
    → behind ≡ codes ",\"steps\":[" ++ listed → BeginsWithSteps listed steps rest → rest ≡ codes "]}"
    → IsRecord text line steps
record_there text numbered behind listed rest line steps fits is digits keyed h closed =
    let ds = map step_data steps in
    let list : listed ≡ with_commas ds ++ codes "]}" = h.spells ∙ ap (λ t. with_commas ds ++ t) closed in
    let front : text ≡ in_front line listed =
    is ∙ ap (λ t. codes "{\"line\":" ++ t) (digits ∙ ap (λ t. decimal line ++ t) keyed) in
    let spelled = front ∙ ap (in_front line) list ∙ sym (record_spelled line steps) in
    record { record_read = ap read spelled ∙ read-record line steps fits; facts = h.facts }
