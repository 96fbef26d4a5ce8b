-- The command line of `cif`, as `clap` reads it.
use Rattle.std.specs.Prelude.{◌≡◌, List, [], ◌∷◌, ◌++◌, Option, Some, codes, map, true, false}
use Rattle.std.specs.Borrow.{Bor}
use Rattle.clap.specs.Words.{App, Row, Rule, Text, app_of, fault_of, new_app, new_rule, subcommand_of, with_rule, with_subcommand}
use Rattle.clap.{specs.Kinds.Kinds, specs.Lexer.usize_max, specs.declared.builder.ValueParser.TheVariants.Names}
use Rattle.clap.specs.declared.{Command.Command, Command.TheViews.out-Command, builder.ArgAction.TheVariants.SetTrue}
use Rattle.cif_commands.specs.declared.{command_line.Argument.Argument, command_line.Choices.Choices, command_line.Syntax.Syntax}
use Rattle.cif_commands.specs.declared.command_line.Argument.TheVariants.{All, CallingAt, Common, Date, DropClashes, File, Form, Format, FromDate, Full}
use Rattle.cif_commands.specs.declared.command_line.Argument.TheVariants.{Holidays, InSequence, Left, Lenient, Place, Right, Stops, Table}
use Rattle.cif_commands.specs.declared.command_line.Argument.TheVariants.{TableFormat, ToDate, Uid, Updates, Verbose, Winners, WinnersFormat}
use Rattle.cif_commands.specs.declared.command_line.Syntax.TheVariants as syntax

-- a word that may not be left out
abbrev pub required : Text → Rule
required id = record (new_rule id) { required = true }

-- words of which there is at least one
abbrev pub several : Text → Rule
several id = record (required id) { range = Some (record { start_inclusive = 1; end_inclusive = usize_max }) }

-- an option with a value: `--ID VALUE`
abbrev pub option : Text → Rule
option id = record (new_rule id) { long = Some id; value_names = 1 }

-- an option without one: `--ID`
abbrev pub flag : Text → Rule
flag id = record (new_rule id) { long = Some id; action = Some SetTrue }

-- where the program keeps words of which one is to be given: a command line borrows them
abbrev pub Choice : Type 0
Choice = Bor (List (Bor Text))

abbrev pub words_in : Choice → List Text
words_in choice = map (λ word. word.now) choice.now

-- the words that name a form, a format, the format of a table, and a table
pub record AreChoices (choices : Choices) : Type 0 where
  pub forms : words_in choices.forms ≡ codes "1" ∷ codes "2" ∷ codes "3" ∷ []
  pub formats : words_in choices.formats ≡ codes "text" ∷ codes "tsv" ∷ codes "json" ∷ []
  pub table_formats : words_in choices.table_formats ≡ codes "tsv" ∷ codes "json" ∷ []
  pub tables : words_in choices.tables
      ≡ codes "header" ∷ codes "tiplocs" ∷ codes "associations" ∷ codes "schedules" ∷ codes "calls" ∷ codes "changes"
      ∷ codes "public" ∷ []

-- an argument whose value is one of these words
abbrev pub one_of : Choice → Rule → Rule
one_of words rule = record rule { parser = Some (Names words) }

-- an option whose value is one of these words, and this one where it is left out
abbrev pub one_of_or : Choice → Text → Rule → Rule
one_of_or words default rule = record (one_of words rule) { defaults = default ∷ [] }

-- what an argument is called, and how it is written
abbrev pub given : Argument → Text × Syntax
given Verbose = (codes "verbose", syntax.Verbose)
given File = (codes "FILE", syntax.Word)
given Left = (codes "LEFT", syntax.Required)
given Right = (codes "RIGHT", syntax.Required)
given Full = (codes "FULL", syntax.Required)
given Updates = (codes "UPDATE", syntax.Several)
given Uid = (codes "UID", syntax.Required)
given Date = (codes "YYMMDD", syntax.Required)
given FromDate = (codes "from", syntax.Date)
given ToDate = (codes "to", syntax.Date)
given All = (codes "all", syntax.Flag)
given Common = (codes "common", syntax.Flag)
given Stops = (codes "stops", syntax.Flag)
given Holidays = (codes "holidays", syntax.Name)
given DropClashes = (codes "drop-clashes", syntax.Flag)
given Winners = (codes "winners", syntax.Flag)
given WinnersFormat = (codes "format", syntax.WinnersFormat)
given Lenient = (codes "lenient", syntax.Flag)
given InSequence = (codes "in-sequence", syntax.Flag)
given Form = (codes "form", syntax.Form)
given Format = (codes "format", syntax.Format)
given TableFormat = (codes "format", syntax.TableFormat)
given Table = (codes "TABLE", syntax.Table)
given Place = (codes "PLACE", syntax.Required)
given CallingAt = (codes "calling-at", syntax.Place)

-- what a subcommand can take
abbrev pub argument : Choices → Text × Syntax → Rule
argument choices (id, syntax.Word) = new_rule id
argument choices (id, syntax.Required) = required id
argument choices (id, syntax.Several) = several id
argument choices (id, syntax.Flag) = flag id
argument choices (id, syntax.Verbose) = record (flag id) { short = Some 118 }
argument choices (id, syntax.Name) = option id
argument choices (id, syntax.Date) = option id
argument choices (id, syntax.Place) = option id
argument choices (id, syntax.Form) = one_of_or choices.forms (codes "2") (option id)
argument choices (id, syntax.Format) = one_of_or choices.formats (codes "text") (option id)
argument choices (id, syntax.TableFormat) = one_of_or choices.table_formats (codes "tsv") (option id)
argument choices (id, syntax.WinnersFormat) = one_of choices.table_formats (option id)
argument choices (id, syntax.Table) = one_of choices.tables (required id)

-- a subcommand that takes these arguments too
abbrev pub taking : Choices → App → List Argument → App
taking choices a [] = a
taking choices a (r ∷ rs) = taking choices (with_rule a (argument choices (given r))) rs

-- `cif normalise [-v] [--from YYMMDD] [--to YYMMDD] [--form FORM] [FILE]`
abbrev pub normalise : List Argument
normalise = Verbose ∷ File ∷ FromDate ∷ ToDate ∷ Form ∷ []

-- `cif check [-v] [--from YYMMDD] [--to YYMMDD] [--form FORM] [--all] [FILE]`
abbrev pub check : List Argument
check = Verbose ∷ File ∷ FromDate ∷ ToDate ∷ Form ∷ All ∷ []

-- `cif compare [-v] [--from YYMMDD] [--to YYMMDD] [--common] LEFT RIGHT`
abbrev pub compare : List Argument
compare = Verbose ∷ Left ∷ Right ∷ FromDate ∷ ToDate ∷ Common ∷ []

-- `cif diff [-v] [--from YYMMDD] [--to YYMMDD] [--common] [--format FORMAT] LEFT RIGHT`
abbrev pub diff : List Argument
diff = Verbose ∷ Left ∷ Right ∷ FromDate ∷ ToDate ∷ Common ∷ Format ∷ []

-- `cif day [-v] [--stops] [--format FORMAT] YYMMDD [FILE]`
abbrev pub day : List Argument
day = Verbose ∷ Date ∷ File ∷ Stops ∷ Format ∷ []

-- `cif train [-v] [--from YYMMDD] [--to YYMMDD] [--form FORM] [--stops] [--format FORMAT] UID [FILE]`
abbrev pub train : List Argument
train = Verbose ∷ Uid ∷ File ∷ FromDate ∷ ToDate ∷ Form ∷ Stops ∷ Format ∷ []

-- `cif explain [-v] [--format FORMAT] UID YYMMDD [FILE]`
abbrev pub explain : List Argument
explain = Verbose ∷ Uid ∷ Date ∷ File ∷ Format ∷ []

-- `cif clashes [-v] [--from YYMMDD] [--to YYMMDD] [--format FORMAT] [FILE]`
abbrev pub clashes : List Argument
clashes = Verbose ∷ File ∷ FromDate ∷ ToDate ∷ Format ∷ []

-- `cif table [-v] [--from YYMMDD] [--to YYMMDD] [--form FORM] [--format FORMAT] TABLE [FILE]`
abbrev pub table : List Argument
table = Verbose ∷ Table ∷ File ∷ FromDate ∷ ToDate ∷ Form ∷ TableFormat ∷ []

-- `cif calendar [-v] [--from YYMMDD] [--to YYMMDD] [--format FORMAT] UID [FILE]`
abbrev pub calendar : List Argument
calendar = Verbose ∷ Uid ∷ File ∷ FromDate ∷ ToDate ∷ Format ∷ []

-- `cif departures [-v] [--calling-at PLACE] [--format FORMAT] PLACE YYMMDD [FILE]`
abbrev pub departures : List Argument
departures = Verbose ∷ Place ∷ Date ∷ File ∷ CallingAt ∷ Format ∷ []

-- `cif arrivals [-v] [--format FORMAT] PLACE YYMMDD [FILE]`
abbrev pub arrivals : List Argument
arrivals = Verbose ∷ Place ∷ Date ∷ File ∷ Format ∷ []

-- `cif prepare [-v] [--holidays FILE] [--drop-clashes] [--winners [--format FORMAT]] [FILE]`
abbrev pub prepare : List Argument
prepare = Verbose ∷ File ∷ Holidays ∷ DropClashes ∷ Winners ∷ WinnersFormat ∷ []

-- `cif update [-v] [--lenient] [--in-sequence] FULL UPDATE...`
abbrev pub update : List Argument
update = Verbose ∷ Full ∷ Updates ∷ Lenient ∷ InSequence ∷ []

-- how the program keeps a subcommand: its name, its help, and what it takes
abbrev pub Parts : Type 0
Parts = Bor Text × Bor Text × Bor (List Argument)

-- its name, and what it takes
abbrev pub taken : Parts → Text × List Argument
taken parts = (parts.0.now, parts.2.now)

-- a program with these subcommands too
abbrev pub with_subcommands : Choices → App → List (Text × List Argument) → App
with_subcommands choices a [] = a
with_subcommands choices a (s ∷ ss) = with_subcommands choices (with_subcommand a (taking choices (new_app s.0) s.1).top) ss

-- a program that tells its version and wants a subcommand
abbrev pub program : Text → App
program name = let made = new_app name in record made { top = record made.top { has_version = true; subcommand_required = true } }

-- the subcommands that read extracts, those that read published extracts, and all, as the help has them
abbrev pub extract_subcommands : List (Text × List Argument)
extract_subcommands =
    (codes "normalise", normalise) ∷ (codes "check", check) ∷ (codes "compare", compare) ∷ (codes "diff", diff)
    ∷ (codes "day", day) ∷ (codes "train", train) ∷ (codes "explain", explain) ∷ (codes "clashes", clashes)
    ∷ (codes "table", table) ∷ (codes "calendar", calendar) ∷ (codes "departures", departures)
    ∷ (codes "arrivals", arrivals) ∷ []

abbrev pub feed_subcommands : List (Text × List Argument)
feed_subcommands = (codes "prepare", prepare) ∷ (codes "update", update) ∷ []

abbrev pub subcommands : List (Text × List Argument)
subcommands = extract_subcommands ++ feed_subcommands

-- the program `cif`
unfoldable pub cif : Choices → App
cif choices = with_subcommands choices (program (codes "cif")) subcommands

-- the command is built as `a` says, and no argument is global
pub record IsCommand (a : App) (c : Command) : Type 0 where
  pub app : app_of c ≡ a
  pub local : (out-Command c).has_globals ≡ false

-- the subcommand that `clap` enters at these words, with its matches
unfoldable pub chosen : Choices → List Text → Option (Text × List Row)
chosen choices words = subcommand_of (cif choices) words

-- the kinds of error that `clap` may give at these words; none where it takes them
unfoldable pub faults_of : Choices → List Text → Kinds
faults_of choices words = fault_of (cif choices) words
