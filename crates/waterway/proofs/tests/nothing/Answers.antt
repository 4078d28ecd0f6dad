use Rattle.waterway.proofs.Theory.{distances, hosts_and_balls, routes_home}
use Rattle.waterway.proofs.tests.nothing.Goals as goal

pub returns : goal.returns
returns g c = record {
  value = c.zero.ensures;
  distances = λ W n S. distances S;
  hosts = λ W n S. hosts_and_balls S;
  routes = λ W n S. routes_home S;
}
