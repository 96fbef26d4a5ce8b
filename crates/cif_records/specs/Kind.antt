-- The kinds of record, by columns 1 and 2.
use Rattle.std.specs.Prelude.{ℕ, Bool, List, [], ◌∷◌, Option, codes, find}
use Rattle.std.specs.Str.{bytes_eq}
use Rattle.cif_columns.specs.Field.{columns}
use Rattle.cif_records.specs.declared.record.Kind.{Kind}
use Rattle.cif_records.specs.declared.record.Kind.TheVariants.{Hd, Ti, Ta, Td, Aa, Bs, Bx, Lo, Li, Cr, Lt, Zz}

-- the two letters of a kind
abbrev pub identity : Kind → List ℕ
identity Hd = codes "HD"
identity Ti = codes "TI"
identity Ta = codes "TA"
identity Td = codes "TD"
identity Aa = codes "AA"
identity Bs = codes "BS"
identity Bx = codes "BX"
identity Lo = codes "LO"
identity Li = codes "LI"
identity Cr = codes "CR"
identity Lt = codes "LT"
identity Zz = codes "ZZ"

-- the twelve kinds, as `Kind::ALL` lists them
abbrev pub kinds : List Kind
kinds = Li ∷ Cr ∷ Lt ∷ Lo ∷ Bx ∷ Bs ∷ Aa ∷ Ti ∷ Hd ∷ Zz ∷ Ta ∷ Td ∷ []

-- whether these columns are the kind's identity
abbrev pub is_identity : List ℕ → Kind → Bool
is_identity letters kind = bytes_eq (identity kind) letters

-- the kind that columns 1 and 2 of a line name; no two kinds have one identity, so the order of the list doesn't matter
abbrev pub kind_in : List ℕ → Option Kind
kind_in line = find (is_identity (columns 1 2 line)) kinds
