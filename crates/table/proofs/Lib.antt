-- Laws that the functions' proofs use.
pub mod Makes
pub mod Installs
pub mod Withdraws
pub mod Followings
pub mod Renews
pub mod RenewCalls
