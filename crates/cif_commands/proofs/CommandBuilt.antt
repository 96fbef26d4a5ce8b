-- A command that is built call by call is the one that the definition says.
use Rattle.cif_commands.proofs.Names.{AddsArg, App, Bor, IsCommand, List, Parts, Some, Text, Verbose, [], ap, app_of, app_of_fields, ap₂}
use Rattle.cif_commands.proofs.Names.{argument, at_drop_more, cif, drop, false, get_or, given, is_simple, is_simple_and_free, length, map}
use Rattle.cif_commands.proofs.Names.{new_app, program, refl, rule_of, sym, taken, taking, true, with_rule, with_subcommands, ℕ, ◌+◌, ◌<◌, ◌||◌}
use Rattle.cif_commands.proofs.Names.{◌∙◌, ◌∷◌, ◌≡◌}
use Rattle.clap.specs.declared.{Command.Command, Command.TheViews.out-Command, builder.arg.Arg.Arg}
use Rattle.cif_commands.specs.declared.{command_line.Argument.Argument, command_line.Choices.Choices}

-- `clap` says exactly what it makes of the command's words
pub is_simple_cif : (choices : Choices) → is_simple (cif choices) ≡ true
unfolding cif
is_simple_cif choices = refl

-- and which kinds of error they have
pub is_free_cif : (choices : Choices) → is_simple_and_free (cif choices) ≡ true
unfolding cif
is_free_cif choices = refl

abbrev telling : App → App
telling a = record a { top = record a.top { has_version = true } }

abbrev requiring : App → App
requiring a = record a { top = record a.top { subcommand_required = true } }

-- the program's own settings
pub program_made : (name : Text) (version : Bor Text) (made versioned requires : Command) → IsCommand (new_app name) made
    → out-Command versioned ≡ record (out-Command made) { version = Some version }
    → out-Command requires ≡ record (out-Command versioned) { subcommand_required = true } → IsCommand (program name) requires
program_made name version made versioned requires is v r = record {
  app = ap app_of_fields r ∙ ap requiring (ap app_of_fields v ∙ ap telling is.app);
  local = ap (λ f. f.has_globals) r ∙ ap (λ f. f.has_globals) v ∙ is.local;
}

-- with the rest of what it is to take, the command is the whole
pub record IsTaking (choices : Choices) (whole : App) (rest : List Argument) (c : Command) : Type 0 where
  pub app : taking choices (app_of c) rest ≡ whole
  pub local : (out-Command c).has_globals ≡ false

-- before its first argument
pub none_taken : (choices : Choices) (a : App) (rest : List Argument) (made : Command) → IsCommand a made →
    IsTaking choices (taking choices a rest) rest made
none_taken choices a rest made is = record { app = ap (λ (b : App). taking choices b rest) is.app; local = is.local }

-- one more argument
pub argument_taken : (choices : Choices) (whole : App) (xs : List Argument) (i : ℕ) → i < length xs → (old : Command) (r : Arg)
    (new : Command) → IsTaking choices whole (drop i xs) old → rule_of r ≡ argument choices (given (get_or xs i Verbose))
    → r.global ≡ false → AddsArg old r new → IsTaking choices whole (drop (i + 1) xs) new
argument_taken choices whole xs i below old r new is rule local added = record {
  app = ap (λ (a : App). taking choices a (drop (i + 1) xs)) (added.shape local ∙ ap (with_rule (app_of old)) rule)
      ∙ (sym (at_drop_more (taking choices (app_of old)) xs i Verbose below) ∙ is.app);
  local = added.globals ∙ ap₂ (λ x y. x || y) is.local local;
}

-- with the rest of its subcommands, the command is the whole
pub record IsGrowing (choices : Choices) (whole : App) (rest : List Parts) (c : Command) : Type 0 where
  pub app : with_subcommands choices (app_of c) (map taken rest) ≡ whole
  pub local : (out-Command c).has_globals ≡ false

-- one more subcommand
pub subcommand_added : (choices : Choices) (whole : App) (d : Parts) (xs : List Parts) (i : ℕ) → i < length xs → (old new : Command)
    → IsGrowing choices whole (drop i xs) old
    → IsCommand (with_subcommands choices (app_of old) (taken (get_or xs i d) ∷ [])) new
    → IsGrowing choices whole (drop (i + 1) xs) new
subcommand_added choices whole d xs i below old new is made = record {
  app = ap (λ (a : App). with_subcommands choices a (map taken (drop (i + 1) xs))) made.app
      ∙ (sym (at_drop_more (λ ys. with_subcommands choices (app_of old) (map taken ys)) xs i d below) ∙ is.app);
  local = made.local;
}
