-- What was read, told in other words.
use Rattle.std.proofs.Common.{◌≡◌, ℕ, List, [], ◌++◌, Option, Result, Ok, Err, refl, sym, append-nil, arith, eqb}
use Rattle.std.proofs.lemmas.List.Splits.{length-slice_split}
use Rattle.json_lines.specs.InputRead.{InputRead}
use Rattle.devices.proofs.Given.{next-refl, of_bytes-map, of_input-map}

module _ {R T U E F : Type 0} (IsRead : E → Type 0) (line_of : E → ℕ) (Gives : Result T E → List ℕ → Type 0)
    (Cuts : E → List ℕ → Type 0) (IsReadToo : F → Type 0) (line_of_too : F → ℕ)
    (GivesToo : Result U F → List ℕ → Type 0) (CutsToo : F → List ℕ → Type 0)
    (given : R → List ℕ) (ends failures : R → ℕ) (remaining : R → Option (List ℕ)) (old new : R) where
  pub answered : (t : T) (u : U) → ((input : List ℕ) → Gives (Ok t) input → GivesToo (Ok u) input)
      → InputRead IsRead line_of Gives Cuts given ends failures remaining old new (Ok t)
      → InputRead IsReadToo line_of_too GivesToo CutsToo given ends failures remaining old new (Ok u)
  answered t u gives read =
      record {
        exact = of_input-map given ends old new _ _ gives read.exact;
        failed = tt;
        ended = read.ended;
        most = read.most;
        known = read.known;
        line = tt;
        counted = tt;
        kept = read.kept;
        unfailed = tt;
      }

  pub refused : (e : E) (f : F) → line_of e ≡ line_of_too f → (IsRead e → IsReadToo f) → (IsReadToo f → IsRead e)
      → ((input : List ℕ) → Gives (Err e) input → GivesToo (Err f) input)
      → ((came : List ℕ) → Cuts e came → CutsToo f came)
      → InputRead IsRead line_of Gives Cuts given ends failures remaining old new (Err e)
      → InputRead IsReadToo line_of_too GivesToo CutsToo given ends failures remaining old new (Err f)
  refused e f same on back gives cuts read =
      record {
        exact = of_input-map given ends old new _ _ gives read.exact;
        failed = λ is. of_bytes-map given old new _ _ cuts (read.failed (back is));
        ended = tt;
        most = read.most;
        known = read.known;
        line = rw same at read.line;
        counted = λ is. read.counted (back is);
        kept = tt;
        unfailed = λ other. read.unfailed (λ is. other (on is));
      }

-- nothing was read, and the fault is of line 1
module _ {R T E : Type 0} (IsRead : E → Type 0) (line_of : E → ℕ) (Gives : Result T E → List ℕ → Type 0)
    (Cuts : E → List ℕ → Type 0) (given : R → List ℕ) (ends failures : R → ℕ) (remaining : R → Option (List ℕ))
    (old : R) where
  pub unread : (e : E) → line_of e ≡ 1 → (IsRead e → ⊥) → ((input : List ℕ) → Gives (Err e) input)
      → InputRead IsRead line_of Gives Cuts given ends failures remaining old old (Err e)
  unread e first other gives =
      record {
        exact = ([], sym (append-nil (given old)), λ rest ended. gives ([] ++ rest));
        failed = λ is. absurd (other is);
        ended = tt;
        most = ([], sym (append-nil (given old)), omega arith);
        known = next-refl given ends remaining old;
        line = (
          [],
          sym (append-nil (given old)),
          (omega (arith, first), omega (arith, first, length-slice_split (λ b. eqb b 10) [])),
        );
        counted = λ is. absurd (other is);
        kept = tt;
        unfailed = λ _. refl;
      }
