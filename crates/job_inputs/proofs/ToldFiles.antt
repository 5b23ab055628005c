-- What is claimed of the bytes of files.
use Rattle.std.proofs.Common.{◌≡◌, ℕ, ◌<◌, List, Option, Some, None, [], refl, sym, ap, subst, arith}
use Rattle.std.specs.Prelude.{IsSomeAnd, All}
use Rattle.flow_outside.specs.Causes.{Rose}
use Rattle.flow_outside.specs.Files.{Files, IfFileTold}
use Rattle.flow_types.specs.Tuples.{Tuple}
use Rattle.flow_model.specs.declared.plan.Node.{Node}
use Rattle.job_report.specs.declared.fault.Fault.{Fault}
use Rattle.job_report.specs.declared.fault.Fault.TheVariants as fault
use Rattle.job_inputs.specs.Inputs.{input_rows, HasRows}
use Rattle.job_inputs.specs.InputEnds.{everywhere, IsUnread, EndsReadingInput}

some_on : (o : Option (List ℕ)) (p q : List ℕ → Type 0) → ((bytes : List ℕ) → p bytes → q bytes) → IsSomeAnd o p → IsSomeAnd o q
some_on None p q on claim = claim
some_on (Some bytes) p q on claim = on bytes claim

-- from one claim to another
pub told_on : (files : Option Files) (name : List ℕ) (p q : List ℕ → Type 0) → ((bytes : List ℕ) → p bytes → q bytes) → IfFileTold files name p → IfFileTold files name q
told_on None name p q on claim = tt
told_on (Some files) name p q on claim = some_on (files name) p q on claim

-- what holds of the bytes that were read is claimed of the file
pub told_of_read : (files : Option Files) (name bytes : List ℕ) (p : List ℕ → Type 0) → IfFileTold files name (λ all. bytes ≡ all) → p bytes → IfFileTold files name p
told_of_read files name bytes p whole holds = told_on files name (λ all. bytes ≡ all) p (λ all same. subst p same holds) whole

-- the rows of the bytes that were read are the file's
pub rows_of_read : (files : Option Files) (name bytes : List ℕ) (source : Node) (rows : List Tuple)
    → IfFileTold files name (λ all. bytes ≡ all) → HasRows (everywhere bytes) [] source rows → HasRows files name source rows
rows_of_read files name bytes source rows whole has = record {
  told = told_of_read files name bytes (λ all. input_rows source all ≡ Some rows) whole has.told;
  tuples = has.tuples;
}

never_rose : Rose 0 0 → ⊥
never_rose rose = omega arith

-- the bytes that were read are refused, and so is the file
pub refused_of_read : (files : Option Files) (name bytes : List ℕ) (source : Node) (before after : ℕ) (why : Fault)
    → IfFileTold files name (λ all. bytes ≡ all) → EndsReadingInput source (everywhere bytes) [] 0 0 why → EndsReadingInput source files name before after why
refused_of_read files name bytes source before after fault.Usage whole e = absurd e
refused_of_read files name bytes source before after (fault.PlanRefused node code) whole e = absurd e
refused_of_read files name bytes source before after (fault.InputRefused number line field kind) whole e = record {
  numbered = e.numbered;
  at_line = e.at_line;
  at_field = e.at_field;
  not_built = e.not_built;
  refused = told_of_read files name bytes (λ all. input_rows source all ≡ None) whole e.refused;
}
refused_of_read files name bytes source before after (fault.ReadFault number) whole e = absurd (never_rose e.1)
refused_of_read files name bytes source before after fault.WriteFault whole e = absurd e
refused_of_read files name bytes source before after fault.Memory whole e = tt
refused_of_read files name bytes source before after (fault.TooSmall need have) whole e = absurd e
refused_of_read files name bytes source before after (fault.Unbound other) whole e = absurd e
refused_of_read files name bytes source before after (fault.SpillFault worker) whole e = absurd e
refused_of_read files name bytes source before after (fault.Damaged worker block) whole e = absurd e
refused_of_read files name bytes source before after (fault.SolutionFull node step worker need have) whole e = absurd e
