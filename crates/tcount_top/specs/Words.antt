-- The words of the command line, behind the program's name, and the command that they are.
use Rattle.std.specs.Prelude.{⊤, ◌≡◌, ℕ, ◌*◌, ◌<◌, ◌≤◌, ◌^◌, List, [], ◌∷◌, map, codes, decimal}
use Rattle.coset_label.specs.Words.{most_letters}
use Rattle.tcount_top.specs.declared.command.TextCommand.{TextCommand}
use Rattle.tcount_top.specs.declared.command.TextCommand.TheVariants.{Synth, Check}
use Rattle.tcount_top.specs.declared.command.Command.{Command}
use Rattle.tcount_top.specs.declared.command.Command.TheVariants.{OverText, Levels, Bench}
use denote.Ref.{Bor}

-- the words' bytes
abbrev pub texts_of : List (Bor (List ℕ)) → List (List ℕ)
texts_of words = map (λ word. word.now) words

-- a number as a word: at most ten decimal digits, with no sign and no leading zero
abbrev pub IsNumber : List ℕ → ℕ → Type 0
IsNumber word number = (word ≡ decimal number) × (number < 10 ^ 10)

-- 1 to 8 workers
abbrev pub AreWorkers : ℕ → Type 0
AreWorkers workers = (1 ≤ workers) × (workers ≤ 8)

-- `synth M W`: any number as the bound, and workers
pub record IsSynth (words : List (List ℕ)) (bound workers : ℕ) : Type 0 where
  pub spelled : words ≡ codes "synth" ∷ decimal bound ∷ decimal workers ∷ []
  pub number : bound < 10 ^ 10
  pub crew : AreWorkers workers

-- `levels N K W`: 1 to 3 qubits, the last level, which is 9, 6 or 4 on so many qubits at most, and workers
pub record IsLevels (words : List (List ℕ)) (qubits top workers : ℕ) : Type 0 where
  pub spelled : words ≡ codes "levels" ∷ decimal qubits ∷ decimal top ∷ decimal workers ∷ []
  pub some : 1 ≤ qubits
  pub few : qubits ≤ 3
  pub low : top ≤ most_letters qubits
  pub crew : AreWorkers workers

-- `bench N T SEED M W`: 1 to 3 qubits, at most 44 letters, a seed, a bound within the limit, and workers
pub record IsBench (words : List (List ℕ)) (qubits letters seed bound workers : ℕ) : Type 0 where
  pub spelled : words ≡ codes "bench" ∷ decimal qubits ∷ decimal letters ∷ decimal seed ∷ decimal bound ∷ decimal workers ∷ []
  pub some : 1 ≤ qubits
  pub few : qubits ≤ 3
  pub short : letters ≤ 44
  pub seeds : seed < 2 ^ 31
  pub low : bound ≤ 2 * most_letters qubits
  pub crew : AreWorkers workers

-- `check`, alone
abbrev pub IsCheck : List (List ℕ) → Type 0
IsCheck words = words ≡ codes "check" ∷ []

-- the words are this command, which reads a text
abbrev pub SpellText : List (List ℕ) → TextCommand → Type 0
SpellText words (Synth bound workers) = IsSynth words bound workers
SpellText words Check = IsCheck words

-- the words are this command
abbrev pub Spell : List (List ℕ) → Command → Type 0
Spell words (OverText command) = SpellText words command
Spell words (Levels qubits top workers) = IsLevels words qubits top workers
Spell words (Bench qubits letters seed bound workers) = IsBench words qubits letters seed bound workers

-- the words are a command
abbrev pub IsCommand : List (List ℕ) → Type 0
IsCommand words = (command : Command) × Spell words command

-- the words are a command that reads a text
abbrev pub AskText : List (List ℕ) → Type 0
AskText words = (command : TextCommand) × SpellText words command

-- the workers that a command names, where it names any, are 1 to 8
abbrev pub HasCrew : TextCommand → Type 0
HasCrew (Synth bound workers) = AreWorkers workers
HasCrew Check = ⊤
