-- The bounds of a histogram as a field.
use Rattle.std.specs.Prelude.{ℕ, zero, suc, ◌+◌, ◌*◌, Bool, true, ◌&&◌, nat_lt, if◌then◌else◌, List, [], ◌∷◌, ◌++◌, length, Option, Some, None, Result, Ok, Err}
use Rattle.std.specs.List.{flat_map}
use Rattle.std.specs.Int.{w16, w64, to_be_bytes}
use Rattle.dap_bytes.specs.Cursor.{Reading}
use Rattle.vdaf_api.specs.declared.kind.TheConstants.{MOST_BOUNDS}
use Rattle.dap_messages.specs.Grammar.{Grammar, ◌>>=◌, number, byte}
use Rattle.dap_messages.specs.Forms.{any_u64}
use Rattle.lane_records.specs.declared.bounds.TheConstants.{MOST_OLD_BOUNDS}
use Rattle.lane_records.specs.declared.format.Format.{Format}
use Rattle.lane_records.specs.declared.format.Format.TheVariants.{One, Two}

-- a field whose value passes a further test
abbrev pub passed : {A : Type 0} → ℕ → Bool → A × Reading → Result (A × Reading) ℕ
passed at holds x = if holds then Ok x else Err at

-- a grammar of the values that pass a further test
abbrev pub restricted : {A : Type 0} → (A → Bool) → Grammar A → Grammar A
restricted test g = record {
  read = λ r. g.read r >>= λ x. passed r.place (test x.0) x;
  spell = g.spell;
  allowed = λ x. g.allowed x && test x;
  most = g.most;
}

-- the number is above the one before it, if there is one
abbrev pub is_over : Option ℕ → ℕ → Bool
is_over None n = true
is_over (Some last) n = nat_lt last n

-- a u64 above the one before it
abbrev pub bound : Option ℕ → Grammar ℕ
bound last = restricted (is_over last) any_u64

-- so many u64s, each above the one before it
abbrev pub bounds_at : Option ℕ → ℕ → Reading → Result (List ℕ × Reading) ℕ
bounds_at last zero r = Ok ([], r)
bounds_at last (suc n) r = (bound last).read r >>= λ x. bounds_at (Some x.0) n x.1 >>= λ more. Ok (x.0 ∷ more.0, more.1)

-- the bounds, one after another
abbrev pub spell_bounds : List ℕ → List ℕ
spell_bounds xs = flat_map (to_be_bytes w64) xs

-- each bound is above the one before it
abbrev pub allowed_bounds : Option ℕ → List ℕ → Bool
allowed_bounds last [] = true
allowed_bounds last (x ∷ xs) = (bound last).allowed x && allowed_bounds (Some x) xs

-- how many bounds there are: in format 1 a u8, in format 2 a u16
abbrev pub bound_count : Format → Grammar ℕ
bound_count One = byte 1 MOST_OLD_BOUNDS
bound_count Two = number w16 1 MOST_BOUNDS

-- a number of bounds, and that many, which ascend strictly
abbrev pub bounds : Format → Grammar (List ℕ)
bounds f = record {
  read = λ r. (bound_count f).read r >>= λ n. bounds_at None n.0 n.1;
  spell = λ xs. (bound_count f).spell (length xs) ++ spell_bounds xs;
  allowed = λ xs. (bound_count f).allowed (length xs) && allowed_bounds None xs;
  most = 2 + MOST_BOUNDS * 8;
}
