pub mod Numbers
pub mod AtPlayer
pub mod Complements
mod Gaps
pub mod NucleolusIsUnique
pub mod NucleolusIsInCore
pub mod SomeGreater
pub mod WithACoreBothAreOne
pub mod ShiftsChangeNothing
pub mod EquivalentGamesAgree
pub mod Withouts
pub mod DummiesGetTheirWorth
mod DummiesMayGetLess
pub mod WhoAddsNoLessGetsNoLess
mod AlikePlayersGetAlike
pub mod ShapleyValuesExist
pub mod TotalsAdd
mod SharesScale
pub mod SharesAddToAll
pub mod ShapleyNoLess
mod ShapleyDummies
pub mod LevelledSums
pub mod UnanimityGames
mod FairRulesAreShapley
mod AddsNoLessInClasses
mod BesideTheirOwn
mod WhoNeedsMorePaysNoLess
mod WhoNeedsMoreSavesNoLess
mod WhoClaimsMoreGetsNoLess
mod WhoClaimsMoreLosesNoLess
mod WhoHasMoreVotesGetsNoLess
pub mod LittlechildPayments
pub mod EachTwoAreAGarment
pub mod NoOtherIsConsistent
pub mod TalmudSharesExist
mod BalanceIsTheGarment
pub mod EveryNucleolus
mod ExampleGarment
mod SortedLists
mod LeavingOut
mod ScaleDoesNotMatter
mod ClassesTimes
pub mod SmallNucleoli
pub mod Gathered
pub mod RenumberedCoalitions
pub mod RenumberingChangesNothing
pub mod ExchangeChangesNothing
pub mod ShapleyIsAnonymous
pub mod ShapleyIsCovariant
mod MixedCertificates
mod MixedPairs
mod ShapleyIsReasonable
mod PerHeadMayGiveLess
mod OneMorePlayer
pub mod BalancedContributions
mod BalancedShares
mod TwoWhoAgree
mod ScalesKeepBalance
