-- A line of a trace is what it says by itself, put into the trace.
use Rattle.std.proofs.Common.{◌≡◌, ℕ, Bool, true, false, cond, List, Option, Some, None, Result, Ok, Err, length, refl, sym, ap, ◌∙◌}
use Rattle.std.specs.Prelude.{codes, bytes_eq, option_and_then}
use Rattle.serde_json.specs.Data.{Data}
use Rattle.serde_json.specs.Find.{get, as_str}
use Rattle.serde_json.specs.Read.{read}
use Rattle.refusals.specs.Refusals.{◌>>=◌}
use Rattle.json_lines.specs.Fields.{number_at, flag_at, text_at, optional_text_at}
use Rattle.json_lines.specs.Json.{of_json}
use Rattle.trace_lines.specs.Causes.{needed}
use Rattle.trace_lines.specs.LineValues.{commits, line_of_text, line_said, placed_at, put_line, records, said_of_kind}
use Rattle.trace_lines.specs.Texts.{goal_of, token_of, version_at}
use Rattle.trace_lines.specs.Traces.{commit_line, commit_of, declaration_line, entry_line, entry_of, of_kind, value_line, with_commit, with_entry}
use Rattle.trace_lines.specs.Values.{EntryValue, TraceValue}
use Rattle.trace_lines.specs.declared.cause.Cause.{Cause}
use Rattle.trace_lines.specs.declared.cause.Cause.TheVariants as causes
use Rattle.trace_lines.specs.declared.entry.EntryKind.{EntryKind}
use Rattle.trace_lines.specs.declared.entry.EntryKind.TheVariants.{Check, Content}

-- what comes behind a step is a further step
pub behind : {A B D E : Type 0} (x : Result A E) (f : A → Result B E) (g : B → Result D E) (h : A → Result D E)
    → ((a : A) → h a ≡ (f a >>= g)) → (x >>= h) ≡ ((x >>= f) >>= g)
behind (Ok a) f g h e = e a
behind (Err c) f g h e = refl

-- a choice, and then a step
pub chosen : {A B E : Type 0} (b : Bool) (x y : Result B E) (u v : Result A E) (f : A → Result B E)
    → x ≡ (u >>= f) → y ≡ (v >>= f) → cond b x y ≡ (cond b u v >>= f)
chosen true x y u v f e h = e
chosen false x y u v f e h = h

-- an entry is read without its place
entry_placed : (kind : EntryKind) (n before : ℕ) (d : Data)
    → entry_of kind n before d ≡ (entry_of kind 0 0 d >>= λ e. Ok (placed_at n before e))
unfolding entry_of
entry_placed kind n before d =
    behind (needed (text_at (codes "goal") d)) _ _ _
    (λ text. behind (needed (number_at (codes "snapshot") d)) _ _ _
    (λ snapshot. behind (needed (flag_at (codes "reply") d)) _ _ _
    (λ reply. behind (needed (optional_text_at (codes "zookie") d)) _ _ _
    (λ zookie. behind (needed (version_at kind reply d)) _ _ _
    (λ version. behind (goal_of text) _ _ _ (λ goal. behind (token_of zookie) _ _ _ (λ token. refl)))))))

module _ (n : ℕ) (t : TraceValue) where
  entry_splits : (kind : EntryKind) (d : Data)
      → entry_line kind n t d ≡ ((entry_of kind 0 0 d >>= λ e. Ok (records e)) >>= put_line n t)
  entry_splits kind d =
      ap (λ (r : Result EntryValue Cause). r >>= with_entry t) (entry_placed kind n (length t.commits) d)
      ∙ sym (behind (entry_of kind 0 0 d) (λ e. Ok (placed_at n (length t.commits) e)) (with_entry t)
      (λ e. with_entry t (placed_at n (length t.commits) e)) (λ e. refl))
      ∙ behind (entry_of kind 0 0 d) (λ e. Ok (records e)) (put_line n t)
      (λ e. with_entry t (placed_at n (length t.commits) e)) (λ e. refl)

  commit_splits : (d : Data) → commit_line n t d ≡ ((commit_of d >>= λ c. Ok (commits c)) >>= put_line n t)
  commit_splits d = behind (commit_of d) (λ c. Ok (commits c)) (put_line n t) (with_commit n t) (λ c. refl)

  kind_splits : (text : List ℕ) (d : Data) (kind : Option (List ℕ)) → read text ≡ Some d
      → of_kind n t d kind ≡ (said_of_kind text d kind >>= put_line n t)
  kind_splits text d None is = refl
  kind_splits text d (Some kind) is =
      chosen (bytes_eq kind (codes "namespace")) _ _ _ _ (put_line n t)
      (sym (ap (of_json causes.NotJson (declaration_line n t)) is))
      (chosen (bytes_eq kind (codes "commit")) _ _ _ _ (put_line n t) (commit_splits d)
      (chosen (bytes_eq kind (codes "content")) _ _ _ _ (put_line n t) (entry_splits Content d)
      (chosen (bytes_eq kind (codes "check")) _ _ _ _ (put_line n t) (entry_splits Check d) refl)))

  -- a line of this text and this value
  pub line_splits : (text : List ℕ) (d : Data) → read text ≡ Some d
      → value_line n t d ≡ (line_said text d >>= put_line n t)
  unfolding value_line line_said
  line_splits text d is = kind_splits text d (option_and_then as_str (get (codes "kind") d)) is

  -- a line of this text
  pub text_splits : (text : List ℕ)
      → of_json causes.NotJson (value_line n t) (read text) ≡ (line_of_text text >>= put_line n t)
  text_splits text = by_value (read text) refl
    where
      by_value : (o : Option Data) → read text ≡ o
          → of_json causes.NotJson (value_line n t) o ≡ (of_json causes.NotJson (line_said text) o >>= put_line n t)
      by_value None is = refl
      by_value (Some d) is = line_splits text d is
