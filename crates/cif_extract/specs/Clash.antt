-- The text of a clash.
use Rattle.std.specs.Prelude.{ℕ, List, ◌++◌, codes}
use Rattle.cif_columns.specs.{DayDigits.yymmdd_of, Text.left_justified}
use Rattle.cif_extract.specs.declared.{fault.Clash.Clash, fault.Clash.TheVariants.Association, fault.Clash.TheVariants.Train}
use Rattle.cif_records.specs.declared.association.AssocKey.{AssocKey}

-- columns between brackets
abbrev pub bracketed : List ℕ → List ℕ
bracketed columns = codes "[" ++ columns ++ codes "]"

-- an association's key: the plain columns of each field, in the order in which keys are compared
unfoldable pub key_text : AssocKey → List ℕ
key_text key = bracketed key.base ++ bracketed key.associated ++ bracketed (left_justified 7 key.location)
    ++ bracketed (left_justified 1 key.base_suffix) ++ bracketed (left_justified 1 key.associated_suffix)

-- what clashes, and on which date
unfoldable pub clash_text : Clash → List ℕ
clash_text (Association key day) = codes "association " ++ key_text key ++ codes " on " ++ yymmdd_of day
clash_text (Train uid day) = codes "train " ++ bracketed uid ++ codes " on " ++ yymmdd_of day
