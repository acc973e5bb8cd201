-- A whole request that clap found is the one that is read, and what is shown was asked for.
use Rattle.std.proofs.Common.{refl, ◌≡◌, ◌⊎◌, inl, inr, ℕ, List, [], Option, Some, None, Result, codes, Bor, Bool, true, false, is_some, if◌then◌else◌, option_map}
use Rattle.clap.specs.Words.{Kinds, HasKind, IsAmong, ReadsOne, Row, Text, kind_of, one_of}
use Rattle.clap.specs.declared.error.Error.{Error}
use Rattle.clap.specs.declared.error.kind.ErrorKind.TheVariants.{DisplayHelp, DisplayVersion, OutOfMemory}
use Rattle.std.specs.Str.Parse.{ParsesUnsigned}
use Rattle.command_line.proofs.Numbers.{read_as_unsigned}
use Rattle.command_line.specs.Asked.{Asked, joined, audits, follows, makes, tells, GivesNumber, IsAuditFound, IsFollowFound, IsMakeFound, IsHistoryFound, IsWholeIn, is_to_show}
use Rattle.command_line.specs.declared.request.Answer.{Answer}

-- a number that is written, and fits, is read
pub number_whole : (E : Type 0) (G : List ℕ → Result ℕ E → Type 0) (rows : List Row) (id : Text) (o : Option ℕ)
    → ((t : Text) → one_of id rows ≡ Some t → ReadsOne G t o) → ((t : Text) (x : Result ℕ E) → G t x → ParsesUnsigned 64 10 t x)
    → (n : ℕ) → GivesNumber rows id n → o ≡ Some n
number_whole E G rows id o some only n g =
    read_as_unsigned E G 64 n g.0.text o (some g.0.text g.0.here) (only g.0.text) g.0.numeral g.0.value g.1

pub flag_whole : (found : Option Text) (r : Bool) → (found ≡ Some (codes "true") → r ≡ true) → (found ≡ Some (codes "false") → r ≡ false)
    → (b : Bool) → found ≡ Some (if b then codes "true" else codes "false") → r ≡ b
flag_whole found r set unset true e = set e
flag_whole found r set unset false e = unset e

pub some_of_mapped : (o : Option (Bor Text)) (e : Option Text) → option_map (λ s. s.now) o ≡ e → is_some e ≡ is_some o
some_of_mapped None e is = rw (← is) refl
some_of_mapped (Some s) e is = rw (← is) refl

-- each command's request is read where clap found it whole
pub asked_whole : (found : Option (Text × List Row)) (o : Option Asked)
    → ((rows : List Row) (t : Text) (e : Option Text) (w n : ℕ) (early : Bool) → found ≡ Some (codes "audit", rows)
    → IsAuditFound rows t e w n early → o ≡ Some (audits t e w n early))
    → ((rows : List Row) (t : Text) (list : Bool) → found ≡ Some (codes "make", rows) → IsMakeFound rows t list → o ≡ Some (makes t list))
    → ((rows : List Row) (t u : Text) → found ≡ Some (codes "history", rows) → IsHistoryFound rows t u → o ≡ Some (tells t u))
    → ((rows : List Row) (t : Text) (from carry : Option Text) (oldest versions : Option ℕ) (heartbeat : Bool)
    → found ≡ Some (codes "follow", rows) → IsFollowFound rows t from carry oldest versions heartbeat
    → o ≡ Some (follows t from carry oldest versions heartbeat))
    → (a : Asked) → IsWholeIn found a → o ≡ Some a
asked_whole found o audit make history follow joined whole = absurd whole
asked_whole found o audit make history follow (audits t e w n early) whole = audit whole.0 t e w n early whole.1 whole.2
asked_whole found o audit make history follow (makes t list) whole = make whole.0 t list whole.1 whole.2
asked_whole found o audit make history follow (tells t u) whole = history whole.0 t u whole.1 whole.2
asked_whole found o audit make history follow (follows t from carry oldest versions heartbeat) whole =
    follow whole.0 t from carry oldest versions heartbeat whole.1 whole.2

-- an error of help has a kind that the words may bring about
pub shown_asked : (kinds : Kinds) (e : Error) (a : Answer) → HasKind kinds e → ¬ (kind_of e ≡ OutOfMemory)
    → (is_to_show a ≡ true → (kind_of e ≡ DisplayHelp) ⊎ (kind_of e ≡ DisplayVersion))
    → is_to_show a ≡ true → IsAmong DisplayHelp kinds ⊎ IsAmong DisplayVersion kinds
shown_asked kinds e a (inl memory) left of_kind shows = absurd (left memory)
shown_asked kinds e a (inr among) left of_kind shows = among_kinds (of_kind shows)
  where
    among_kinds : (kind_of e ≡ DisplayHelp) ⊎ (kind_of e ≡ DisplayVersion) → IsAmong DisplayHelp kinds ⊎ IsAmong DisplayVersion kinds
    among_kinds (inl help) = inl (rw (help) at among)
    among_kinds (inr version) = inr (rw (version) at among)

-- words that are taken bring about no error but of memory
pub only_memory : (kinds : Kinds) (e : Error) → HasKind kinds e → kinds ≡ [] → kind_of e ≡ OutOfMemory
only_memory kinds e (inl memory) none = memory
only_memory kinds e (inr among) none = absurd (rw none at among)
