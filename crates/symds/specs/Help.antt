-- What the program prints when it is asked for help or for its version.
use Rattle.std.specs.Prelude.{◌≡◌, ◌≢◌, ℕ, ◌≤◌, ◌++◌, List, length, take, codes, Option}
use Rattle.sds_outside.specs.Told.{after_told}
use Rattle.sds_types.specs.declared.status.Status.{Status}
use Rattle.sds_types.specs.declared.status.Status.TheVariants.{Done, WriteFault, NoMemory}

abbrev pub help_text : List ℕ
help_text = codes "symds plays rehearsals of nodes that replicate their tables to one another.\n"
    ++ (codes "\n"
    ++ (codes "usage: symds [OPTIONS] COMMAND [WORDS]\n"
    ++ (codes "\n"
    ++ (codes "commands:\n"
    ++ (codes "  rehearse             plays the scenario on standard input under the configuration\n"
    ++ (codes "                       and prints what each step answers\n"
    ++ (codes "\n"
    ++ (codes "options:\n"
    ++ (codes "  --folder FOLDER      the folder of the configuration symds.toml [default: .]\n"
    ++ (codes "  --keeper KEEPER      journal or sqlite, where a node keeps its records [default: journal]\n"
    ++ (codes "  --port PORT          the port of loopback [default: 31415]\n"
    ++ (codes "  -h, --help           prints this text\n"
    ++ (codes "  -V, --version        prints the version\n"
    ++ (codes "\n"
    ++ (codes "No command uses --keeper or --port yet. Exit status 0 is success; any other is named on\n"
    ++ (codes "standard error with what to do about it.\n"))))))))))))))))

abbrev pub version_text : List ℕ
version_text = codes "symds 0.1.0\n"

-- the text is written whole, unless a writing failed or memory ran out; always a prefix of it
pub record IsPrinted (text : List ℕ) (status : Status) (old new : Option (List ℕ)) : Type 0 where
  pub ends : status ≢ WriteFault → status ≢ NoMemory → (status ≡ Done) × (new ≡ after_told old text)
  pub part : (n : ℕ) × ((n ≤ length text) × (new ≡ after_told old (take n text)))
