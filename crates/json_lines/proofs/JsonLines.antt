-- A line that is text, and one that is none.
use Rattle.std.proofs.Common.{◌≡◌, ℕ, Bool, true, false, List, Option, Some, None, Result, Ok, Err, OnOk, IfErr, ap, refl, ◌∙◌, inl, inr, IsUtf8}
use Rattle.std.specs.Str.{is_utf8}
use Rattle.std.proofs.lemmas.Bool.{cases_Bool}
use Rattle.std.proofs.lemmas.Str.{IsUtf8-from_is_utf8, is_utf8-from_IsUtf8}
use Rattle.serde_json.specs.Data.{Data}
use Rattle.serde_json.specs.Read.{read}
use Rattle.refusals.specs.Refusals.{◌>>=◌, Fails, Gives, Unless}
use Rattle.refusals.proofs.Steps.{ErrHas, either_refused}
use Rattle.json_lines.specs.Json.{is_blank, of_json, json_line, taken_line}
use Rattle.json_lines.specs.Reading.{Refuses, stopped}

pub of_no_value : {S C : Type 0} (not_json : C) (taken : Data → Result S C) (bytes : List ℕ) → (IsUtf8 bytes → read bytes ≡ None) → json_line not_json taken bytes ≡ Err not_json
unfolding json_line
of_no_value not_json taken bytes h =
    elim (cases_Bool (is_utf8 bytes)) [
      | inl u ↦ let e = h (IsUtf8-from_is_utf8 bytes u) in rw (u, e) refl
      | inr f ↦ rw f refl
    ]

of_some_json : {S C : Type 0} (P : C → Type 0) (not_json : C) (taken : Data → Result S C) (o : Option Data) → P not_json → ((d : Data) → ErrHas P (taken d)) → ErrHas P (of_json not_json taken o)
of_some_json P not_json taken None h k = h
of_some_json P not_json taken (Some d) h k = k d

-- what refuses a line is that it is no JSON, or what its value gives
pub line_refused : {S C : Type 0} (P : C → Type 0) (not_json : C) (taken : ℕ → S → Data → Result S C) (n : ℕ) (s : S) (line : List ℕ)
    → P not_json → ((d : Data) → ErrHas P (taken n s d)) → ErrHas P (taken_line not_json taken n s line)
unfolding json_line
line_refused P not_json taken n s line h k =
    either_refused P (is_blank line) _ _ tt (either_refused P (is_utf8 line) _ _ (of_some_json P not_json (taken n s) (read line) h k) h)

pub of_no_blank : {S C : Type 0} (not_json : C) (taken : ℕ → S → Data → Result S C) (n : ℕ) (s : S) (line : List ℕ) → is_blank line ≡ false
    → taken_line not_json taken n s line ≡ json_line not_json (taken n s) line
of_no_blank not_json taken n s line h = rw h refl

-- a line that is text is what its text makes, read as JSON
pub of_a_text : {S C : Type 0} (not_json : C) (taken : Data → Result S C) (bytes : List ℕ) → IsUtf8 bytes → json_line not_json taken bytes ≡ of_json not_json taken (read bytes)
unfolding json_line
of_a_text not_json taken bytes u = rw (is_utf8-from_IsUtf8 bytes u) refl

-- ---- a line of which a step takes what its value says

pub json_then : {A B C : Type 0} (not_json : C) (o : Option Data) (f : Data → Result A C) (g : A → Result B C) → of_json not_json (λ d. f d >>= g) o ≡ (of_json not_json f o >>= g)
json_then not_json None f g = refl
json_then not_json (Some d) f g = refl

-- a refusal stays one, whatever step stands behind it
pub fails_then : {A B C : Type 0} (is_open : C → Bool) (c : C) (r : Result A C) (g : A → Result B C) → Fails is_open c r → Fails is_open c (r >>= g)
fails_then {A} is_open c r g told = by_test (is_open c) told
  where
    by_test : (b : Bool) → Unless b (r ≡ Err c) → Unless b ((r >>= g) ≡ Err c)
    by_test true told = tt
    by_test false told = ap (λ (s : Result A _). s >>= g) told

-- ---- a line that is answered as what it makes

stops : {S C : Type 0} (is_memory : Bool) (c : C) (line : Result S C) → Unless is_memory (line ≡ Err c) → IfErr (stopped (λ _. is_memory) (Err c)) (Refuses line)
stops true c line told = tt
stops false c line told = told

module _ {S C : Type 0} (is_memory : C → Bool) (s : S) (answer : Result (Unit {0}) C) (given line : Result S C) (told : Gives is_memory (λ _. s) answer given) (same : line ≡ given) where
  pub stopped_ok : OnOk (stopped is_memory answer) (line ≡ Ok s)
  stopped_ok = on_ok answer told
    where
      on_ok : (r : Result (Unit {0}) C) → Gives is_memory (λ _. s) r given → OnOk (stopped is_memory r) (line ≡ Ok s)
      on_ok (Ok u) h = same ∙ h
      on_ok (Err c) h = tt

  pub stopped_refused : IfErr (stopped is_memory answer) (Refuses line)
  stopped_refused = on_err answer told
    where
      on_err : (r : Result (Unit {0}) C) → Gives is_memory (λ _. s) r given → IfErr (stopped is_memory r) (Refuses line)
      on_err (Ok u) h = tt
      on_err (Err c) h = stops (is_memory c) c line (rw same h)
