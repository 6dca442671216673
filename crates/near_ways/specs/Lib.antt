pub mod NearWays
