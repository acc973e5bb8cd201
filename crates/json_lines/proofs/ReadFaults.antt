-- An input is refused as a failure of the reader only where the reader failed.
use Rattle.std.proofs.Common.{◌≡◌, ◌≢◌, ℕ, Bool, true, false, List, Option, Result, Err, refl, ap, ◌∙◌}
use Rattle.refusals.specs.Refusals.{Unless, Fails}
use Rattle.json_lines.specs.Reading as reading
use Rattle.json_lines.specs.Reading.{cause_of, read_all, IsOfLine, IsOfSomeLine, IsReadFault}
use Rattle.json_lines.specs.declared.lines.InputFault.{InputFault}
use Rattle.json_lines.specs.declared.lines.InputFault.TheVariants.{Read, TooLong, OutOfMemory}
use Rattle.json_lines.specs.declared.reading.Stop.{Stop}
use Rattle.json_lines.specs.declared.reading.Stop.TheVariants.{Input, Line}
use Rattle.json_lines.specs.declared.reading.LineFault.{LineFault}
use Rattle.json_lines.specs.InputRead.{InputRead, LinesRead}
use Rattle.json_lines.proofs.InputReads.{refused}

-- no line gives the cause of a reader's failure, and no other fault of the input is told by it
pub record IsReadersOwn {S C : Type 0} (taken : ℕ → S → List ℕ → Result S C) (of_input : InputFault → C) : Type 0 where
  pub of_no_line : (n : ℕ) (s : S) (line : List ℕ) (c : C) → taken n s line ≡ Err c → c ≢ of_input Read
  pub not_too_long : of_input TooLong ≢ of_input Read
  pub not_memory : of_input OutOfMemory ≢ of_input Read

by_stop : {S C : Type 0} (taken : ℕ → S → List ℕ → Result S C) (of_input : InputFault → C) (fault : LineFault C) (stop : Stop C)
    → IsReadersOwn taken of_input → fault.stop ≡ stop → IsOfSomeLine taken fault → cause_of of_input stop ≡ of_input Read → stop ≡ Input Read
by_stop taken of_input fault (Line c) own e told h = let by = told c e in absurd (own.of_no_line by.0 by.1 by.2 c by.3 h)
by_stop taken of_input fault (Input Read) own e told h = refl
by_stop taken of_input fault (Input TooLong) own e told h = absurd (own.not_too_long h)
by_stop taken of_input fault (Input OutOfMemory) own e told h = absurd (own.not_memory h)

pub reader_failed : {S C : Type 0} (taken : ℕ → S → List ℕ → Result S C) (of_input : InputFault → C) (fault : LineFault C)
    → IsReadersOwn taken of_input → IsOfSomeLine taken fault → cause_of of_input fault.stop ≡ of_input Read → fault.stop ≡ Input Read
reader_failed taken of_input fault own told h = by_stop taken of_input fault fault.stop own refl told h

of_no_input : {C : Type 0} (stop : Stop C) → IsOfLine stop → stop ≢ Input Read
of_no_input (Line c) h e = cc
of_no_input (Input TooLong) h e = cc
of_no_input (Input Read) h e = absurd h
of_no_input (Input OutOfMemory) h e = absurd h

-- a refusal of a line is not told as a failure of the reader
pub of_line_alone : {S C : Type 0} (taken : ℕ → S → List ℕ → Result S C) (of_input : InputFault → C) (fault : LineFault C)
    → IsReadersOwn taken of_input → IsOfLine fault.stop → IsOfSomeLine taken fault → cause_of of_input fault.stop ≢ of_input Read
of_line_alone taken of_input fault own line told h = of_no_input fault.stop line (reader_failed taken of_input fault own told h)

kept_unless : (test : Bool) (P : Type 0) → P → Unless test P
kept_unless true P h = tt
kept_unless false P h = h

opened : (test : Bool) (P : Type 0) → test ≡ true → Unless test P
opened true P h = tt
opened false P h = absurd cc

-- the same of a whole input, for a fault that is open where the reader failed or memory ran out
pub refused_in_words : {S C V F : Type 0} (told : Result S (LineFault C) → Result V F) (is_open : F → Bool) (fault : LineFault C) (e : F) (read : Result S (LineFault C))
    → told (Err fault) ≡ Err e → (fault.stop ≡ Input Read → is_open e ≡ true) → (fault.stop ≡ Input OutOfMemory → is_open e ≡ true)
    → reading.Fails fault.stop fault read → Fails is_open e (told read)
refused_in_words {S} {C} told is_open fault e read t failed ran_out h = at_stop fault.stop refl h
  where
    at_stop : (stop : Stop C) → fault.stop ≡ stop → reading.Fails stop fault read → Fails is_open e (told read)
    at_stop (Line c) is k = kept_unless (is_open e) (told read ≡ Err e) (ap told k ∙ t)
    at_stop (Input TooLong) is k = kept_unless (is_open e) (told read ≡ Err e) (ap told k ∙ t)
    at_stop (Input Read) is k = opened (is_open e) (told read ≡ Err e) (failed is)
    at_stop (Input OutOfMemory) is k = opened (is_open e) (told read ≡ Err e) (ran_out is)

-- The fault of lines is told in other words: `told` of what they give is what is answered.
module _ {R S T U C V F : Type 0} (taken : ℕ → S → List ℕ → Result S C) (of_input : InputFault → C)
    (told : Result S (LineFault C) → Result V F) (is_open : F → Bool) (IsRead : F → Type 0) (line_of : F → ℕ)
    (Gives : Result U F → List ℕ → Type 0) (Cuts : F → List ℕ → Type 0)
    (given : R → List ℕ) (ends failures : R → ℕ) (remaining : R → Option (List ℕ)) (old new : R) (start now : S) where
  pub retold : (fault : LineFault C) (e : F) → told (Err fault) ≡ Err e → fault.line ≡ line_of e
      → IsReadersOwn taken of_input → IsOfSomeLine taken fault
      → (IsRead e → cause_of of_input fault.stop ≡ of_input Read) → (fault.stop ≡ Input Read → IsRead e)
      → (fault.stop ≡ Input Read → is_open e ≡ true) → (fault.stop ≡ Input OutOfMemory → is_open e ≡ true)
      → ((input : List ℕ) → Fails is_open e (told (read_all taken true start input)) → Gives (Err e) input)
      → ((came : List ℕ) → told (read_all taken false start came) ≡ Err e → Cuts e came)
      → LinesRead {T = T} given ends failures remaining taken old new start now (Err fault)
      → InputRead IsRead line_of Gives Cuts given ends failures remaining old new (Err e)
  retold fault e t line own of_some back on failed ran_out gives cuts read =
      refused IsReadFault (λ (f : LineFault C). f.line) _ _ IsRead line_of Gives Cuts given ends failures remaining old
      new fault e line on (λ is. reader_failed taken of_input fault own of_some (back is))
      (λ input fails. gives input
      (refused_in_words told is_open fault e (read_all taken true start input) t failed ran_out fails))
      (λ came is. cuts came (ap told is ∙ t)) read
