-- A size table that was read as far as some line: what the whole text says, by what was read and what is left.
use Rattle.std.proofs.Common.{◌≡◌, ℕ, ◌+◌, ◌<◌, ◌≤◌, Bool, true, false, List, [], ◌∷◌, ◌++◌, Ok, Err, refl, sym, ◌∙◌, arith}
use Rattle.pf_lex.specs.Text.{TextLine}
use Rattle.pf_model.specs.declared.Band.{Band}
use Rattle.pf_model.specs.Conforming.{HasDefault}
use Rattle.row_text.specs.Rows.{◌>>=◌, at_text_end}
use Rattle.row_text.proofs.Reading.{IsReadTo, read_to-more, read_to-fault, read_to-end, text_end-extra, text_end-none}
use Rattle.table_text.specs.Size.{is_default, default_on, row_on, bands_on}
use Rattle.table_text.specs.Kept.{HoldsAll}
use Rattle.table_text.specs.declared.fault.TableErr.{TableErr}
use Rattle.table_text.specs.declared.fault.TableErr.TheVariants as fault

-- nothing need be known of the bands that were read
abbrev pub Any : List Band → Type 0
Any bands = Unit {0}

-- where the reading stands: the lines that are left, and the bands that were read
pub record BandsStand (all left : List TextLine) (above : ℕ) (fits : Bool) (bands : List Band) : Type 0 where
  pub few : above ≤ 1023
  pub read : IsReadTo Any (bands_on 0 all) (bands_on above left) above fits bands

-- a line that is a row
row-line : (above : ℕ) (line : TextLine) (left : List TextLine) → is_default line.words ≡ false → bands_on above (line ∷ left) ≡ (row_on above line.line line.words >>= (λ band. bands_on (above + 1) left >>= (λ bands. Ok (band ∷ bands))))
unfolding bands_on
row-line above line left row = rw row refl

-- the default line
default-line : (above : ℕ) (line : TextLine) (left : List TextLine) → is_default line.words ≡ true → bands_on above (line ∷ left) ≡ (default_on line.line line.words >>= (λ band. at_text_end fault.Extra left (Ok (band ∷ []))))
unfolding bands_on
default-line above line left is = rw is refl

module _ (all left : List TextLine) (above : ℕ) (fits : Bool) (bands : List Band) (s : BandsStand all left above fits bands) where
  module _ (line : TextLine) (rest : List TextLine) (there : left ≡ line ∷ rest) where
    -- a row was read
    pub goes_on : (band : Band) (fits' : Bool) (bands' : List Band) → is_default line.words ≡ false → Ok band ≡ row_on above line.line line.words → above < 1023 → (fits' ≡ true → (fits ≡ true) × (bands' ≡ bands ++ band ∷ [])) → BandsStand all rest (above + 1) fits' bands'
    goes_on band fits' bands' row is few kept =
        record {
          few = omega arith;
          read = read_to-more Any Any _ _ _ _ _ _ _ _ _ band s.read (rw there (row-line above line rest row ∙ rw (sym is) refl)) (λ _ _ _. tt) kept refl;
        }

    -- a row is refused
    pub is_bad : (e : TableErr) → is_default line.words ≡ false → Err e ≡ row_on above line.line line.words → bands_on 0 all ≡ Err e
    is_bad e row is = read_to-fault _ _ _ _ _ _ e s.read (rw there (row-line above line rest row ∙ rw (sym is) refl))

    -- the default line is refused
    pub is_bad_default : (e : TableErr) → is_default line.words ≡ true → Err e ≡ default_on line.line line.words → bands_on 0 all ≡ Err e
    is_bad_default e default is = read_to-fault _ _ _ _ _ _ e s.read (rw there (default-line above line rest default ∙ rw (sym is) refl))

    -- a line stands below the default line
    pub is_extra : (band : Band) (e : TableErr) → is_default line.words ≡ true → Ok band ≡ default_on line.line line.words → Err e ≡ at_text_end {A = Unit {0}} fault.Extra rest (Ok tt) → bands_on 0 all ≡ Err e
    is_extra band e default is end =
        read_to-fault _ _ _ _ _ _ e s.read (rw there (default-line above line rest default ∙ rw (sym is) (text_end-extra fault.Extra rest (Ok (band ∷ [])) e end)))

    -- the default line is the last
    pub is_done : (band : Band) → is_default line.words ≡ true → Ok band ≡ default_on line.line line.words → Ok tt ≡ at_text_end {A = Unit {0}} fault.Extra rest (Ok tt) → bands_on 0 all ≡ Ok (s.read.front ++ band ∷ [])
    is_done band default is end =
        let none : rest ≡ [] = text_end-none fault.Extra rest end in
        read_to-end _ _ _ _ _ _ (band ∷ []) s.read (rw there (default-line above line rest default ∙ rw (sym is, none) refl))

  -- there is no default line
  pub is_open : left ≡ [] → bands_on 0 all ≡ Err fault.NoDefault
  unfolding bands_on
  is_open none = read_to-fault _ _ _ _ _ _ fault.NoDefault s.read (rw none refl)

-- the last band is the default
pub has_default-append : (bands : List Band) (band : Band) → HoldsAll band → HasDefault (bands ++ band ∷ [])
has_default-append [] band all = all
has_default-append (first ∷ []) band all = all
has_default-append (first ∷ second ∷ bands) band all = has_default-append (second ∷ bands) band all
