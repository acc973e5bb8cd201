-- Texts that stand in JSON as they are, up to a byte that ends them.
use Rattle.std.specs.Prelude.{◌≡◌, ℕ, ◌==◌, ◌&&◌, not, Bool, true, List, ◌∷◌, ◌++◌, nat_le}
use Rattle.std.specs.List.{list_all}
use Rattle.tuple_text.specs.Forms.{is_id_byte}

-- neither a quote nor a backslash nor a control
abbrev pub is_plain_byte : ℕ → Bool
is_plain_byte b = nat_le 32 b && not (b == 34) && not (b == 92)

abbrev pub is_plain_id_byte : ℕ → Bool
is_plain_id_byte b = is_id_byte b && not (b == 34) && not (b == 92)

-- a text begins with what stands in JSON as it is, then the byte, then the rest
pub record IsSplit (end : ℕ) (text front rest : List ℕ) : Type 0 where
  pub parts : text ≡ front ++ end ∷ rest
  pub plain : list_all is_plain_byte front ≡ true
