use Rattle.std.proofs.Common.{List, ap, sym}
use Rattle.key_sources.proofs.Saying.{says_same}
use Rattle.xpath_meaning.specs.Match.{match_path}
use Rattle.xpath_meaning.specs.Outcome.{some_holds}
use Rattle.xpath_syntax.specs.declared.pattern.PatternPath.{PatternPath}
use Rattle.patterns.proofs.matching.matches.Goals as goal

pub returns-clause-answers : goal.returns-clause-answers
returns-clause-answers g c = says_same (λ R. ap (λ (paths : List PatternPath). some_holds (λ path. match_path R path c.args.n) paths) (sym c.as_slice.ensures)) c.some_path_matches.ensures.answers
