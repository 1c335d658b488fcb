mod Answerings
mod Chains
mod Listings
