-- The transactions of an update, by their letters.
use Rattle.std.specs.Prelude.{ℕ, ◌==◌, Option, Some, None, if◌then◌else◌}
use Rattle.cif_feed.specs.declared.mark.Transaction.{Transaction}
use Rattle.cif_feed.specs.declared.mark.Transaction.TheVariants.{New, Revised, Deleted}

-- the transaction with this letter: `N`, `R`, `D`
abbrev pub transaction_in : ℕ → Option Transaction
transaction_in column =
    if column == 78 then Some New else (if column == 82 then Some Revised else (if column == 68 then Some Deleted else None))

-- its letter
abbrev pub transaction_letter : Transaction → ℕ
transaction_letter New = 78
transaction_letter Revised = 82
transaction_letter Deleted = 68
